use Rattle.std.proofs.Common.{◌≡◌, ◌≢◌, get_or, sym, ap, refl, subst, ◌∙◌}
use Rattle.eqc_core.specs.declared.worker.Worker.{Worker}
use Rattle.eqc_core.specs.Machine.{state_of, words_of}
use Rattle.eqc_core.proofs.Stored.{stepped, turn_fits}
use Rattle.eqc_core.proofs.StoredSeats.{join_views, stored_there}
use Rattle.eqc_core.proofs.machine.Machine.join.Goals as goal

pub returns : goal.returns
returns c =
    let m = c.args.self.now in
    let n : c.args.from ≢ c.args.id = λ e. c.requires.may.1 (e
    ∙ sym (turn_fits m c.args.id c.requires.turn).number) in
    let there = stored_there m c.args.from c.requires.may.3 in
    let o : c.replace-other.result ≡ get_or m.workers.items c.args.from c.replace-other.result =
    (let a = c.replace-other.ensures.value in let b = c.index_mut.ensures.value in
    subst (λ (w : Worker). w ≡ get_or m.workers.items c.args.from w) (sym a) b) in
    let off = ap (λ (w : Worker). w.active) c.replace-other.ensures.after ∙ c.absent.ensures.active
    in
    let over = ap (λ (w : Worker). w.over) c.replace-other.ensures.after ∙ c.absent.ensures.over in
    let t =
    join_views m.sizes m.workers.items c.args.id c.args.from c.index_mut-worker.result.now
    c.replace-other.result c.replace-other.new.dest
    c.join.new.self c.requires.turn.there there n o c.index_mut-worker.ensures.value off over
    c.requires.turn.active
    (c.in_ok-join.ensures m.sizes) in
    stepped (state_of m) (words_of m) (words_of m) _ _ refl t

use Rattle.std.proofs.Common.{arith, set, ap, refl, ◌∙◌}
use Rattle.std.proofs.lemmas.List.{get_or_read}
use Rattle.eqc_core.specs.View.{view_at}
use Rattle.eqc_core.specs.Machine.{state_of, words_of}
use Rattle.eqc_core.specs.Announcing.{looked}
use Rattle.eqc_core.proofs.Stored.{turned, stepped, cell_there, word_below, phases_there}
use Rattle.eqc_core.proofs.machine.Machine.look.Goals as goal

pub index-found-requires : goal.index-found-requires
index-found-requires c = let h = cell_there c.args.self.now c.args.id c.args.c c.requires.turn
    c.requires.may.2 in omega arith

pub look-requires : goal.look-requires
look-requires c =
    let h = phases_there c.args.self.now c.args.id c.index_mut-worker.result.now c.requires.turn
    c.index_mut-worker.ensures.value in
    let lt = word_below c.args.self.now c.args.id c.args.k c.requires.turn c.requires.may.1 in
    omega arith

pub returns : goal.returns
returns c =
    let m = c.args.self.now in
    let vs = (state_of m).views in
    let v = view_at vs c.args.id in
    let t =
    turned m.sizes m.workers.items c.args.id c.index_mut-worker.result.now c.look.new.self
    (λ v. looked v c.args.k c.args.c c.index-found.result.now)
    c.requires.turn.there c.index_mut-worker.ensures.value c.requires.turn.active c.look.ensures in
    let found = get_or_read m.cells.items c.args.c c.index-found.result.now (cell_there m c.args.id
    c.args.c c.requires.turn c.requires.may.2) c.index-found.ensures 0 in
    stepped (state_of m) (words_of m) (words_of m) _ _ refl (t
    ∙ ap (λ n. set vs c.args.id (looked v c.args.k c.args.c n)) found)

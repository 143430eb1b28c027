use Rattle.std.proofs.Common.{◌≡◌, ◌≢◌, ◌+◌, suc, set, sym, ap, refl, ◌∙◌, arith, true, false}
use Rattle.std.proofs.Common.{add-one}
use Rattle.eqc_core.specs.declared.sizes.Sizes.{Sizes}
use Rattle.eqc_core.specs.View.{View, view_at, grown, fresh}
use Rattle.eqc_core.specs.Seating.{splitter}
use Rattle.eqc_core.specs.Machine.{state_of, words_of}
use Rattle.eqc_core.proofs.Stored.{stepped, turn_sizes}
use Rattle.eqc_core.proofs.StoredSeats.{split_views, grown_long, fresh_is}
use Rattle.eqc_core.proofs.machine.Machine.split.Goals as goal

pub index_mut-requires : goal.index_mut-requires
index_mut-requires c = let l = grown_long c.args.self.now.sizes c.args.self.now.workers.items
    c.grow.new.workers.items (c.args.to + 1) (c.in_ok-grow.ensures c.args.self.now.sizes) in
    omega arith

pub index_mut-worker-requires : goal.index_mut-worker-requires
index_mut-worker-requires c =
    let l = grown_long c.args.self.now.sizes c.args.self.now.workers.items c.grow.new.workers.items
    (c.args.to + 1) (c.in_ok-grow.ensures c.args.self.now.sizes) in
    let there = c.requires.turn.there in
    omega arith

pub returns : goal.returns
returns c =
    let m = c.args.self.now in
    let vs = (state_of m).views in
    let v = view_at vs c.args.id in
    let n : c.args.to ≢ c.args.id = λ e. (let q : true ≡ false = sym c.requires.turn.active
    ∙ ap (λ (t : View). t.active) (ap (λ i. view_at vs i) (sym e) ∙ c.requires.may.3) in cc) in
    let grew = c.in_ok-grow.ensures m.sizes ∙ ap (grown vs) (add-one c.args.to) in
    let new = fresh_is m.sizes c.in_ok-fresh.fresh c.args.to c.in_ok-fresh.ensures.active
    (c.in_ok-fresh.ensures.view m.sizes refl) in
    let t =
    split_views m.sizes m.workers.items c.grow.new.workers.items c.args.id c.args.to
    c.index_mut-worker.result.now c.in_ok-fresh.fresh
    c.split_off.new.self c.requires.turn.there n grew new c.index_mut-worker.ensures.value
    c.requires.turn.active c.in_ok-split_off.ensures in
    let sizes = ap (λ (z : Sizes). set (set (grown vs (suc c.args.to)) c.args.to
    (fresh z c.args.to)) c.args.id (splitter v c.args.to))
    (sym (turn_sizes m c.args.id c.requires.turn)) in
    stepped (state_of m) (words_of m) (words_of m) _ _ refl (t ∙ sizes)

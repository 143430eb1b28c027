use Rattle.std.proofs.Common.{set, sym, ap, ◌∙◌, arith}
use Rattle.std.proofs.lemmas.List.{length-map}
use mathlib.Core.Option.{some}
use Rattle.eqc_core.specs.View.{View, view_at, hand_of}
use Rattle.eqc_core.specs.Moves.{with_lock}
use Rattle.eqc_core.specs.Locking.{unlocked}
use Rattle.eqc_core.specs.Machine.{state_of, words_of, home_of}
use Rattle.eqc_core.proofs.Stored.{turned, stepped_home, turn_fits, turn_view}
use Rattle.eqc_core.proofs.machine.Machine.unlock.Goals as goal

pub put_home-requires : goal.put_home-requires
put_home-requires c =
    let m = c.args.self.now in
    let h = (turn_fits m c.args.id c.requires.turn).hand _ c.requires.may.0.1 in
    let is = c.requires.may.1 in
    let l = length-map m.homes.items home_of in
    let n = c.requires.turn.kept.lawful.sized.homes in
    omega arith

pub index_mut-requires : goal.index_mut-requires
index_mut-requires c =
    let h = (turn_fits c.args.self.now c.args.id c.requires.turn).hand _ c.requires.may.0.1 in
    let is = c.requires.may.1 in
    let n = c.requires.turn.kept.lawful.sized.locks in
    omega arith

pub returns : goal.returns
returns c =
    let m = c.args.self.now in
    let s = state_of m in
    let id = c.args.id in
    let v = view_at s.views id in
    let is = sym c.requires.may.1 in
    let t =
    turned m.sizes m.workers.items id c.index_mut-worker.result.now c.unlock-table.new.self unlocked
    c.requires.turn.there
    c.index_mut-worker.ensures.value c.requires.turn.active c.unlock-table.ensures.turns in
    let table = c.unlock-table.ensures.table ∙ ap (λ (u : View). (hand_of u.hand).entries)
    (sym (turn_view m id c.index_mut-worker.result.now c.requires.turn
    c.index_mut-worker.ensures.value)) in
    stepped_home s _ _ _ _ _ _ (ap (λ k. with_lock (words_of m) k 0) is) (c.put_home.ensures
    ∙ (λ k. set s.homes (is k) (some (table k)))) t

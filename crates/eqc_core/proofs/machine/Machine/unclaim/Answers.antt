use Rattle.std.proofs.Common.{sym, ap, ◌∙◌, arith}
use Rattle.eqc_core.specs.View.{View, view_at, draft_of}
use Rattle.eqc_core.specs.Moves.{with_count}
use Rattle.eqc_core.specs.Making.{unclaimed}
use Rattle.eqc_core.specs.Machine.{state_of, words_of}
use Rattle.eqc_core.proofs.Stored.{turned, stepped, turn_there, turn_view}
use Rattle.eqc_core.proofs.machine.Machine.unclaim.Goals as goal
use Rattle.eqc_core.proofs.Claiming.{draft_is}

pub index_mut-requires : goal.index_mut-requires
index_mut-requires c =
    let m = c.args.self.now in
    let s = state_of m in
    let v = view_at s.views c.args.id in
    let d = draft_is s.sizes s.words s.homes s.views c.args.id v c.requires.turn.kept.lawful
    (turn_there m c.args.id c.requires.turn) c.requires.turn.active (draft_of v.draft)
    c.requires.may.1 in
    let lt = d.1 in
    let is = c.unclaim-d.ensures.draft
    ∙ ap (λ (u : View). draft_of u.draft)
    (sym (turn_view m c.args.id c.index_mut-worker.result.now c.requires.turn
    c.index_mut-worker.ensures.value)) in
    let n = c.requires.turn.kept.lawful.sized.counts in
    omega arith

pub returns : goal.returns
returns c =
    let m = c.args.self.now in
    let t =
    turned m.sizes m.workers.items c.args.id c.index_mut-worker.result.now c.unclaim-d.new.self
    unclaimed c.requires.turn.there
    c.index_mut-worker.ensures.value c.requires.turn.active c.unclaim-d.ensures.turns in
    let is = c.unclaim-d.ensures.draft
    ∙ ap (λ (u : View). draft_of u.draft)
    (sym (turn_view m c.args.id c.index_mut-worker.result.now c.requires.turn
    c.index_mut-worker.ensures.value)) in
    stepped (state_of m) _ _ _ _ (ap (λ k. with_count (words_of m) k 0) is) t

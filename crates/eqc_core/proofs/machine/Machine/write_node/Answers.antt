use Rattle.std.proofs.Common.{sym, ap, ◌∙◌, arith}
use Rattle.eqc_core.specs.View.{View, view_at, draft_of, hand_of}
use Rattle.eqc_core.specs.Moves.{with_node}
use Rattle.eqc_core.specs.Making.{wrote}
use Rattle.eqc_tree.specs.Word.{node_word}
use Rattle.eqc_core.specs.Machine.{state_of, words_of}
use Rattle.eqc_core.proofs.Stored.{turned, stepped, turn_there, turn_view}
use Rattle.eqc_core.proofs.machine.Machine.write_node.Goals as goal
use Rattle.eqc_core.proofs.Stored.{hand_there}
use Rattle.eqc_core.proofs.Claiming.{draft_is}

pub write-requires-clause-hand : goal.write-requires-clause-hand
write-requires-clause-hand c = hand_there c.args.self.now c.args.id c.index_mut-worker.result.now _
    c.requires.turn c.index_mut-worker.ensures.value c.requires.may.word.hand

pub index_mut-requires : goal.index_mut-requires
index_mut-requires c =
    let m = c.args.self.now in
    let s = state_of m in
    let v = view_at s.views c.args.id in
    let d =
    draft_is s.sizes s.words s.homes s.views c.args.id v c.requires.turn.kept.lawful
    (turn_there m c.args.id c.requires.turn) c.requires.turn.active (draft_of v.draft)
    c.requires.may.word.draft in
    let lt = d.1 in
    let is = c.in_ok-d.ensures.draft
    ∙ ap (λ (u : View). draft_of u.draft)
    (sym (turn_view m c.args.id c.index_mut-worker.result.now c.requires.turn
    c.index_mut-worker.ensures.value)) in
    let n = c.requires.turn.kept.lawful.sized.nodes in
    omega arith

pub returns : goal.returns
returns c =
    let m = c.args.self.now in
    let word = node_word c.args.variable c.args.low c.args.high in
    let t =
    turned m.sizes m.workers.items c.args.id c.index_mut-worker.result.now c.write.new.self
    (λ v. wrote v (draft_of v.draft) (hand_of v.hand) word) c.requires.turn.there
    c.index_mut-worker.ensures.value c.requires.turn.active
    c.in_ok-d.ensures.turns in
    let is = c.in_ok-d.ensures.draft
    ∙ ap (λ (u : View). draft_of u.draft)
    (sym (turn_view m c.args.id c.index_mut-worker.result.now c.requires.turn
    c.index_mut-worker.ensures.value)) in
    stepped (state_of m) _ _ _ _ (λ i. with_node (words_of m) (is i) (c.pack_node.ensures i)) t

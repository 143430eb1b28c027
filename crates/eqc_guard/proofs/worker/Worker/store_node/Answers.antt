use Rattle.std.proofs.Common.{◌≡◌, ◌+◌, ◌∙◌, ℕ, [], ◌∷◌, Option, Some, None, length, ap, refl, sym}
use Rattle.std.proofs.Common.{subst, arith}
use Rattle.std.specs.Arc.{arc_value}
use Rattle.eqc_tree.specs.Tree.{Node}
use Rattle.eqc_core.specs.declared.sizes.Sizes.{Sizes}
use Rattle.eqc_core.specs.View.{Hand, draft_of, hand_of}
use Rattle.eqc_core.specs.Words.{announced_words}
use Rattle.eqc_guard.specs.Known.{tree_of}
use Rattle.eqc_guard.specs.Rule.{nodes_from}
use Rattle.eqc_guard.specs.Standing.{Standing, slots_out, stripes_in}
use Rattle.eqc_guard.specs.Making.{MayMake, drafted, node_tree}
use Rattle.eqc_guard.proofs.Making.{write_allows, child_small, given_enough, drafted_length}
use Rattle.eqc_guard.proofs.Making.{made_tree}
use Rattle.eqc_guard.proofs.Counts.{seated_with}
use Rattle.eqc_guard.proofs.worker.Worker.store_node.Goals as goal

pub pack_node-word-requires-clause-lo : goal.pack_node-word-requires-clause-lo
pack_node-word-requires-clause-lo c =
    let may : MayMake c.self.inside.seat.me.0 c.args.var c.args.low c.args.high =
    subst (λ (s : Standing). MayMake s.known c.args.var c.args.low c.args.high)
    (sym c.self.view_is) c.requires.may in
    (child_small c.self.inside.seat.me.0 c.args.var c.args.low c.args.high
    c.self.invariant.worker.known may).0

pub pack_node-word-requires-clause-hi : goal.pack_node-word-requires-clause-hi
pack_node-word-requires-clause-hi c =
    let may : MayMake c.self.inside.seat.me.0 c.args.var c.args.low c.args.high =
    subst (λ (s : Standing). MayMake s.known c.args.var c.args.low c.args.high)
    (sym c.self.view_is) c.requires.may in
    (child_small c.self.inside.seat.me.0 c.args.var c.args.low c.args.high
    c.self.invariant.worker.known may).1

pub store-requires : goal.store-requires
store-requires c =
    let is = c.self.invariant in
    let me = c.self.inside.seat.me in
    let v = sym c.self.view_is in
    let at : c.node_word-place.result ≡ nodes_from me.0.core.sizes + c.args.slot =
    subst (λ (s : Standing). c.node_word-place.result ≡ nodes_from s.known.core.sizes + c.args.slot)
    v c.node_word-place.ensures in
    let draft : me.0.core.draft ≡ Some c.args.slot = subst (λ (s : Standing). s.known.core.draft
    ≡ Some c.args.slot) v c.requires.draft in
    let may : MayMake me.0 c.args.var c.args.low c.args.high =
    subst (λ (s : Standing). MayMake s.known c.args.var c.args.low c.args.high) v c.requires.may
    in (
      rw c.deref.ensures is.one_table,
      rw (c.deref.ensures, is.worker.words)
          (let there = (is.worker.known.draft c.args.slot draft).1 in let e =
          ap announced_words is.worker.sizes in let f =
          ap (λ (z : Sizes). z.names) is.worker.sizes in omega arith),
      rw c.pack_node-word.ensures
          (write_allows c.deref.result.now.shared.key.sizes c.deref.result.now.shared.table_id.slots
          c.self.inside.seat.id
          c.node_word-place.result me is.worker.active c.args.slot at c.args.var c.args.low
          c.args.high is.worker.known draft may),
    )

pub held_with_node-self-inside-requires-clause-enough :
    goal.held_with_node-self-inside-requires-clause-enough
held_with_node-self-inside-requires-clause-enough c =
    let may : MayMake c.self.inside.seat.me.0 c.args.var c.args.low c.args.high =
    subst (λ (s : Standing). MayMake s.known c.args.var c.args.low c.args.high)
    (sym c.self.view_is) c.requires.may in
    rw c.self.invariant.held_is (given_enough c.self.inside.seat.me.0 c.args.var c.args.low
    c.args.high may)

pub invariant_of-self : goal.invariant_of-self
invariant_of-self c =
    let is = c.self.invariant in
    let me = c.self.inside.seat.me in
    let w = c.self.inside in
    let may : MayMake me.0 c.args.var c.args.low c.args.high =
    subst (λ (s : Standing). MayMake s.known c.args.var c.args.low c.args.high)
    (sym c.self.view_is) c.requires.may in
    let told = c.store.ensures.2 in
    let hand = may.hand.1 in
    let l : c.held_with_node-self-inside.result
    ≡ length (drafted me.0.core c.pack_node-word.result).held =
    subst (λ (n : ℕ). c.held_with_node-self-inside.result ≡ length (drafted me.0.core n).held)
    (sym c.pack_node-word.ensures)
    (drafted_length me.0 c.args.var c.args.low c.args.high w.held
    c.held_with_node-self-inside.result is.worker.known may is.held_is
    c.held_with_node-self-inside.ensures) in
    let carried : slots_out c.store.new.seat.me.1 ≡ (hand_of me.0.core.hand).stripe ∷ [] =
    ap slots_out told.1
    ∙ (is.carries ∙ (ap stripes_in hand ∙ ap (λ (o : Option Hand). (hand_of o).stripe ∷ [])
    (sym hand))) in
    seated_with w.seat.table_id (arc_value w.table).shared.table_id
    (arc_value w.table).shared.key.sizes w.sizes me w.number w.held w.phases.items
    w.retired.items w.noted.items w.position w.given w.out.items w.draft is
    c.store.new.seat.table_id c.store.new.seat.me (drafted me.0.core c.pack_node-word.result)
    c.held_with_node-self-inside.result w.phases.items
    w.retired.items w.noted.items w.position w.given w.out.items None
    c.store.ensures.0 told.0.core told.0.known carried refl is.worker.active refl l is.phases_are
    is.retired_are is.noted_are is.position_is is.given_is is.out_is refl

pub returns-clause-tree : goal.returns-clause-tree
returns-clause-tree c =
    let is = c.self.invariant in
    let me = c.self.inside.seat.me in
    let v = sym c.self.view_is in
    let draft : me.0.core.draft ≡ Some c.args.slot = subst (λ (s : Standing). s.known.core.draft
    ≡ Some c.args.slot) v c.requires.draft in
    let may : MayMake me.0 c.args.var c.args.low c.args.high =
    subst (λ (s : Standing). MayMake s.known c.args.var c.args.low c.args.high) v c.requires.may
    in
    let tree : tree_of c.store.new.seat.me.0 c.args.slot ≡ Node c.args.var (tree_of me.0 c.args.low)
    (tree_of me.0 c.args.high) =
    ap (λ (o : Option ℕ). tree_of c.store.new.seat.me.0 (draft_of o)) (sym draft)
    ∙ (c.store.ensures.2.3 ∙ (ap (node_tree me.0) c.pack_node-word.ensures
    ∙ made_tree me.0 c.args.var c.args.low c.args.high is.worker.known may)) in
    subst (λ (s : Standing). tree_of c.store.new.seat.me.0 c.args.slot
    ≡ Node c.args.var (tree_of s.known c.args.low) (tree_of s.known c.args.high)) c.self.view_is
    tree

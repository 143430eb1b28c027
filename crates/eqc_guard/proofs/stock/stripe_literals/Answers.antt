use Rattle.std.proofs.Common.{◌≡◌, ◌+◌, ◌%◌, [], ◌∷◌, eqb, sym, ap, ◌∙◌, arith, inr, ℕ, List}
use Rattle.indexmap.specs.IndexMap.{insert_entry}
use Rattle.eqc_core.specs.State.{literal}
use Rattle.eqc_guard.proofs.Stocking.{no_literal, one_stripe_literal}
use Rattle.eqc_guard.proofs.stock.stripe_literals.Goals as goal
use Rattle.eqc_guard.proofs.stock.stripe_literals.Goals.{then-i-n+in_ok-insert, else-i-n}

pub returns : goal.returns
returns c = elim c.if-i-n.branch [
  | then-i-n+in_ok-insert w ↦
      let lt = w.if-i-n.true in
      let few = c.requires.few in
      let stripe = c.requires.stripe in
      let swap : (c.args.s + 15) % 16 + 2 ≡ 2 + (c.args.s + 15) % 16 = omega arith in
      let one : insert_entry eqb c.new-stripe.result.entries w.pack_node.result
      ((c.args.s + 15) % 16 + 2) ≡ (literal ((c.args.s + 15) % 16), 2 + (c.args.s + 15) % 16)
      ∷ [] =
      ap (λ (es : List (ℕ × ℕ)). insert_entry eqb es w.pack_node.result ((c.args.s + 15) % 16 + 2))
      c.new-stripe.ensures.empty ∙ (λ j. (w.pack_node.ensures j, swap j) ∷ []) in
      ap (λ m. m.entries) w.stripe-is
      ∙ (w.in_ok-insert.ensures.entries
      ∙ (one ∙ sym (one_stripe_literal c.args.s ((c.args.s + 15) % 16) 0 c.args.n (omega arith)
      (omega arith) (omega arith) (omega arith) (omega arith))))
  | else-i-n w ↦
      let none = w.if-i-n.false in
      let few = c.requires.few in
      let stripe = c.requires.stripe in
      ap (λ m. m.entries) w.stripe-is ∙ (c.new-stripe.ensures.empty
      ∙ sym (no_literal c.args.s ((c.args.s + 15) % 16) 0 c.args.n (omega arith) (omega arith)
      (omega arith) (inr (omega arith))))
]

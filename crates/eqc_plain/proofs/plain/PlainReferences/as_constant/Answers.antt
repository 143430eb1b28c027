use Rattle.std.proofs.Common.{ap, arith, sym, ◌∙◌, ◌≡◌, false, true, Bool, Some, ℕ}
use Rattle.eqc_tree.specs.Tree.{value}
use Rattle.eqc_plain.specs.Store.{tree_at}
use Rattle.eqc_plain.proofs.Trees.{tree_at-zero, tree_at-one}
use Rattle.eqc_plain.proofs.Laws.{held_is, not_constant}
use Rattle.eqc_plain.proofs.plain.PlainReferences.as_constant.Goals as goal

pub returns-then-f-eq0 : goal.returns-then-f-eq0
returns-then-f-eq0 c b =
    let r = c.args.f.now in
    let says : (a : ℕ → Bool) → value (tree_at r.at.value r.node) a ≡ false =
    λ a. ap (λ n. value (tree_at r.at.value n) a) c.if-f-eq0.true
    ∙ ap (λ t. value t a) (tree_at-zero r.at.value) in (
      (λ e a. says a ∙ let q : false ≡ b = cc in q),
      (λ e. ap Some (sym (says (λ _. false)) ∙ e (λ _. false))),
    )

pub returns-then-f-eq1 : goal.returns-then-f-eq1
returns-then-f-eq1 c b =
    let r = c.args.f.now in
    let says : (a : ℕ → Bool) → value (tree_at r.at.value r.node) a ≡ true =
    λ a. ap (λ n. value (tree_at r.at.value n) a) c.if-f-eq1.true
    ∙ ap (λ t. value t a) (tree_at-one r.at.value) in (
      (λ e a. says a ∙ let q : true ≡ b = cc in q),
      (λ e. ap Some (sym (says (λ _. false)) ∙ e (λ _. false))),
    )

pub returns : goal.returns
returns c b =
    let s = c.args.self.now.store in
    let r = c.args.f.now in
    let k = held_is s.variables s.nodes r.at.value s.counts.items r.node c.requires in (
      (λ e a. cc),
      (λ e. absurd (not_constant s.variables s.limit s.nodes r.at.value s.counts.items r.node b
          s.lawful (omega arith) k e)),
    )

-- What refuted questions say of two literals.
use Rattle.std.proofs.Common.{◌≡◌, ℕ, Bool, true, false, not, ◌&&◌, ◌||◌, List, [], ◌∷◌, refl, sym}
use Rattle.std.proofs.Common.{ap, ◌∙◌}
use Rattle.eqc_xag.specs.declared.node.Node.{Node}
use Rattle.eqc_xag.specs.Graph.{literal_value}
use Rattle.eqc_rup.specs.Clauses.{IsRefuted}
use Rattle.eqc_sweep.specs.Gates.{AreOpposite}
use Rattle.eqc_sweep.specs.Finding.{AreEqual, AreNever}
use Rattle.eqc_sweep.proofs.BoolLemmas.{equal_both}

one_false : (x y : Bool) → (not x || (not y || false)) ≡ true → (x && y) ≡ false
one_false true true h = cc
one_false true false h = refl
one_false false y h = refl

-- the question of two literals
pub never_both : (nodes : List Node) (x y : ℕ) → IsRefuted nodes (x ∷ y ∷ []) → AreNever nodes x y
never_both nodes x y r = record {
  value = λ a. one_false (literal_value nodes a x)
      (literal_value nodes a y) (r.one_is_false a);
}

-- literals neither of which is true where the other is false
pub equal_by_two : (nodes : List Node) (x y m n : ℕ) → AreOpposite x m → AreOpposite y n
    → AreNever nodes x n → AreNever nodes m y → AreEqual nodes x y
equal_by_two nodes x y m n o d first second = record {
  value = λ a.
      equal_both (literal_value nodes a x) (literal_value nodes a y)
      (ap (λ (b : Bool). literal_value nodes a x && b) (sym (d.value nodes a)) ∙ first.value a)
      (ap (λ (b : Bool). b && literal_value nodes a y) (sym (o.value nodes a)) ∙ second.value a);
}

pub equal_itself : (nodes : List Node) (x y : ℕ) → x ≡ y → AreEqual nodes x y
equal_itself nodes x y e = record { value = λ a. ap (λ (l : ℕ). literal_value nodes a l) e }

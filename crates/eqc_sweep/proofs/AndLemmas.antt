-- The rules for a conjunction that say false or one of its literals.
use Rattle.std.proofs.Common.{◌≡◌, ℕ, ◌+◌, ◌*◌, ◌/◌, ◌<◌, Bool, true, false, not, ◌&&◌, List}
use Rattle.std.proofs.Common.{length, refl, sym, ap, ◌∙◌, arith}
use Rattle.eqc_xag.specs.declared.node.Node.{Node}
use Rattle.eqc_xag.specs.declared.node.Node.TheVariants.{And, Xor}
use Rattle.eqc_xag.specs.Graph.{literal_value, node_value, differ, IsWithin, IsBelow, IsGraph}
use Rattle.eqc_sweep.specs.declared.reduced.Reduced.{Reduced}
use Rattle.eqc_sweep.specs.declared.reduced.Reduced.TheVariants.{There, Absent}
use Rattle.eqc_sweep.specs.Gates.{not_both, Makes, AreOpposite, Excludes, Implies}
use Rattle.eqc_sweep.specs.Reducing.{StandsFor}
use Rattle.eqc_sweep.proofs.ConstantLemmas.{value_false, value_true}
use Rattle.eqc_sweep.proofs.BoolLemmas.{same_of_one, same_at, and_comm, differ_comm, and_true}
use Rattle.eqc_sweep.proofs.BoolLemmas.{excluded_first, excluded_second}

-- of equal literals, and of constants
pub and_same : (nodes : List Node) (x y : ℕ) → IsWithin nodes x → x ≡ y
    → StandsFor nodes (And x y) (There x)
and_same nodes x y within e = record {
  within = within;
  value = λ a. same_of_one (λ b. b) (λ b. b && b) refl refl (literal_value nodes a x)
      ∙ ap (λ (l : ℕ). literal_value nodes a x && literal_value nodes a l) e;
}

pub and_zero : (nodes : List Node) (x y : ℕ) → IsGraph nodes → IsWithin nodes x → x ≡ 0
    → StandsFor nodes (And x y) (There x)
and_zero nodes x y g within e = record {
  within = within;
  value = λ a. let none = ap (λ (l : ℕ). literal_value nodes a l) e ∙ value_false nodes g a in none
      ∙ sym (ap (λ (b : Bool). b && literal_value nodes a y) none);
}

pub and_one : (nodes : List Node) (x y : ℕ) → IsGraph nodes → IsWithin nodes x → y ≡ 1
    → StandsFor nodes (And x y) (There x)
and_one nodes x y g within e = record {
  within = within;
  value = λ a. let all = ap (λ (l : ℕ). literal_value nodes a l) e ∙ value_true nodes g a in
      sym (ap (λ (b : Bool). literal_value nodes a x && b) all
      ∙ and_true (literal_value nodes a x));
}

-- the literals of a conjunction may be exchanged
pub and_commuted : (nodes : List Node) (x y : ℕ) (r : Reduced) → StandsFor nodes (And y x) r
    → StandsFor nodes (And x y) r
and_commuted nodes x y r s = record {
  within = s.within;
  value = λ a. s.value a
      ∙ and_comm (literal_value nodes a y) (literal_value nodes a x);
}

-- of complements
pub and_opposite : (nodes : List Node) (x y : ℕ) → IsGraph nodes → AreOpposite x y
    → StandsFor nodes (And x y) (There 0)
and_opposite nodes x y g o = record {
  within = omega (arith, g.some);
  value = λ a. value_false nodes g a
      ∙ sym (ap (λ (b : Bool). literal_value nodes a x && b) (o.value nodes a)
      ∙ same_of_one (λ b. b && not b) (λ b. false) refl refl (literal_value nodes a x));
}

-- of p and q with y
pub both_excluded : (nodes : List Node) (x p q y : ℕ) → IsGraph nodes → Makes ◌&&◌ nodes x p q
    → Excludes p q y → StandsFor nodes (And x y) (There 0)
both_excluded nodes x p q y g m e = record {
  within = omega (arith, g.some);
  value = λ a. value_false nodes g a
      ∙ sym (ap (λ (b : Bool). b && literal_value nodes a y) (m.value a) ∙ e.value nodes a);
}

-- of p and q, with r and s
pub four_first : (nodes : List Node) (x p q y r s : ℕ) → IsGraph nodes → Makes ◌&&◌ nodes x p q
    → Makes ◌&&◌ nodes y r s → Excludes p q r → StandsFor nodes (And x y) (There 0)
four_first nodes x p q y r s g m n e = record {
  within = omega (arith, g.some);
  value = λ a.
      let both = literal_value nodes a p && literal_value nodes a q in
      value_false nodes g a ∙ sym (same_at ◌&&◌ _ _ _ _ (m.value a) (n.value a)
      ∙ excluded_first both (literal_value nodes a r) (literal_value nodes a s)
      (e.value nodes a));
}

pub four_second : (nodes : List Node) (x p q y r s : ℕ) → IsGraph nodes → Makes ◌&&◌ nodes x p q
    → Makes ◌&&◌ nodes y r s → Excludes p q s → StandsFor nodes (And x y) (There 0)
four_second nodes x p q y r s g m n e = record {
  within = omega (arith, g.some);
  value = λ a.
      let both = literal_value nodes a p && literal_value nodes a q in
      value_false nodes g a ∙ sym (same_at ◌&&◌ _ _ _ _ (m.value a) (n.value a)
      ∙ excluded_second both (literal_value nodes a r) (literal_value nodes a s)
      (e.value nodes a));
}

-- The rules for a difference.
use Rattle.std.proofs.Common.{◌≡◌, ℕ, ◌+◌, ◌*◌, ◌/◌, ◌<◌, Bool, true, false, not, ◌&&◌, List}
use Rattle.std.proofs.Common.{length, refl, sym, ap, ◌∙◌, arith}
use Rattle.eqc_xag.specs.declared.node.Node.{Node}
use Rattle.eqc_xag.specs.declared.node.Node.TheVariants.{And, Xor}
use Rattle.eqc_xag.specs.Graph.{literal_value, node_value, differ, IsWithin, IsBelow, IsGraph}
use Rattle.eqc_sweep.specs.declared.reduced.Reduced.{Reduced}
use Rattle.eqc_sweep.specs.declared.reduced.Reduced.TheVariants.{There, Absent}
use Rattle.eqc_sweep.specs.Gates.{not_both, Makes, AreOpposite, Excludes, Implies}
use Rattle.eqc_sweep.specs.Reducing.{StandsFor}
use Rattle.eqc_sweep.proofs.ConstantLemmas.{value_false, value_true}
use Rattle.eqc_sweep.proofs.BoolLemmas.{same_of_one, same_at, and_comm, differ_comm, and_true}
use Rattle.eqc_sweep.proofs.BoolLemmas.{excluded_first, excluded_second}

pub differ_same : (nodes : List Node) (x y : ℕ) → IsGraph nodes → x ≡ y
    → StandsFor nodes (Xor x y) (There 0)
differ_same nodes x y g e = record {
  within = omega (arith, g.some);
  value = λ a. value_false nodes g a
      ∙ (same_of_one (λ b. false) (λ b. differ b b) refl refl (literal_value nodes a x)
      ∙ ap (λ (l : ℕ). differ (literal_value nodes a x) (literal_value nodes a l)) e);
}

pub differ_opposite : (nodes : List Node) (x y : ℕ) → IsGraph nodes → AreOpposite x y
    → StandsFor nodes (Xor x y) (There 1)
differ_opposite nodes x y g o = record {
  within = omega (arith, g.some);
  value = λ a.
      value_true nodes g a
      ∙ (same_of_one (λ b. true) (λ b. differ b (not b)) refl refl (literal_value nodes a x)
      ∙ ap (λ (b : Bool). differ (literal_value nodes a x) b) (sym (o.value nodes a)));
}

pub differ_zero : (nodes : List Node) (x y : ℕ) → IsGraph nodes → IsWithin nodes y → x ≡ 0
    → StandsFor nodes (Xor x y) (There y)
differ_zero nodes x y g within e = record {
  within = within;
  value = λ a. ap (λ (b : Bool). differ b (literal_value nodes a y))
      (sym (ap (λ (l : ℕ). literal_value nodes a l) e ∙ value_false nodes g a));
}

pub differ_one : (nodes : List Node) (x y l : ℕ) → IsGraph nodes → IsWithin nodes y → x ≡ 1
    → AreOpposite y l → StandsFor nodes (Xor x y) (There l)
differ_one nodes x y l g within e o = record {
  within = omega (arith, within, o.node);
  value = λ a. o.value nodes a ∙ ap (λ (b : Bool). differ b (literal_value nodes a y))
      (sym (ap (λ (k : ℕ). literal_value nodes a k) e ∙ value_true nodes g a));
}

pub differ_commuted : (nodes : List Node) (x y : ℕ) (r : Reduced) → StandsFor nodes (Xor y x) r
    → StandsFor nodes (Xor x y) r
differ_commuted nodes x y r s = record {
  within = s.within;
  value = λ a. s.value a
      ∙ differ_comm (literal_value nodes a y) (literal_value nodes a x);
}

-- Two names that are known are one where their functions are one.
use Rattle.std.proofs.Common.{◌≡◌, ◌↔◌, ℕ, IsTrue, nat_eq, ap, inl, inr, arith}
use Rattle.std.proofs.lemmas.Bool.Decides.{nat_tests}
use Rattle.eqc_tree.specs.Tree.{value, SameFunction}
use Rattle.eqc_tree.proofs.Uniqueness.{bryant}
use Rattle.eqc_core.specs.View.{View}
use Rattle.eqc_guard.specs.Known.{Known, IsKnown, IsHeld, IsNamed, tree_of}
use Rattle.eqc_guard.proofs.Learning.{held_named}

equal : (a b : ℕ) → IsTrue (nat_eq a b) → a ≡ b
equal a b h = grind (arith, nat_tests)

test : (a b : ℕ) → a ≡ b → IsTrue (nat_eq a b)
test a b h = grind (arith, nat_tests)

pub named : (v : View) (x : ℕ) → IsHeld v x → IsNamed v x
named v x (inl lt) = inl lt
named v x (inr h) = inr (held_named v x h)

pub same_named : (k : Known) (x y : ℕ) → IsKnown k → IsNamed k.core x → IsNamed k.core y
    → IsTrue (nat_eq x y) ↔ SameFunction (tree_of k x) (tree_of k y)
same_named k x y is p q = (
  λ t a. ap (λ (n : ℕ). value (tree_of k n) a) (equal x y t),
  λ f. test x y (is.one x y p q (bryant (tree_of k x) (tree_of k y) (is.canonical x p)
      (is.canonical y q) f)),
)

pub same_functions : (k : Known) (x y : ℕ) → IsKnown k → IsHeld k.core x → IsHeld k.core y
    → IsTrue (nat_eq x y) ↔ SameFunction (tree_of k x) (tree_of k y)
same_functions k x y is p q = same_named k x y is (named k.core x p) (named k.core y q)

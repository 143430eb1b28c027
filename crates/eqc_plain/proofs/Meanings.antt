use Rattle.std.proofs.Common.{ℕ, ◌+◌, ◌<◌, List, length, min, ap, refl, arith, inl, inr}
use Rattle.std.proofs.lemmas.Bool.{cases_lt}
use Rattle.eqc_tree.specs.Tree.{value}
use Rattle.eqc_plain.specs.declared.store.Store.{Store}
use Rattle.eqc_plain.specs.Store.{tree_at, root, IsNode, AreCofactors, IsStore}
use Rattle.eqc_plain.specs.Extending.{Extends}
use Rattle.eqc_plain.specs.Meaning.{meaning_of}
use Rattle.eqc_plain.specs.Combining.{AreHalves, IsWhole}
use Rattle.eqc_plain.proofs.Trees.{tree_at-zero, tree_at-one, root-constant, root_below}
use Rattle.eqc_plain.proofs.Growing.{before}
use Rattle.eqc_plain.proofs.Combining.{Stays, HasConstants}

-- numbers keep their meaning as the store grows
pub store_stays : (old new : Store) → Extends old new → Stays (meaning_of old.variables old.nodes)
    (meaning_of new.variables new.nodes)
store_stays old new e =
    let b = before old.nodes new.nodes e.grows in
    record {
      variables = e.variables;
      there = λ x h. omega (arith, b.size);
      root = λ x h. rw (e.variables, b.tree x h) refl;
      says = λ x a h. ap (λ t. value t a) (b.tree x h);
    }

pub store_constants : (variables : ℕ) (ws : List ℕ) → HasConstants (meaning_of variables ws)
store_constants variables ws =
    record {
      there = λ x h. omega arith;
      root = λ x h. root-constant variables ws x h;
      zero_says = λ a. ap (λ t. value t a) (tree_at-zero ws);
      one_says = λ a. ap (λ t. value t a) (tree_at-one ws);
    }

pub halves_of : {variables : ℕ} {ws : List ℕ} {v x low high : ℕ}
    → AreCofactors variables ws v x low high → AreHalves (meaning_of variables ws) v x low high
halves_of c = record {
  low_within = c.low_within;
  high_within = c.high_within;
  above_low =
      c.above_low;
  above_high = c.above_high;
  function = c.function;
}

pub whole_of : {variables : ℕ} {ws : List ℕ} {v low high x : ℕ} → IsNode variables ws v low high x
    → IsWhole (meaning_of variables ws) v low high x
whole_of n = record { within = n.within; root_at = n.root_at; function = n.function }

-- the top variable of two that are no constants
pub top_below : {variables limit : ℕ} {ws counts : List ℕ} → IsStore variables limit ws counts
    → (f g : ℕ) → f < length ws + 2 →
    g < length ws + 2 → ((f < 2) × (g < 2) → ⊥)
    → min (root variables (tree_at ws f)) (root variables (tree_at ws g)) < variables
top_below s f g hf hg inner =
    elim (cases_lt f 2) [
      | inl small ↦ elim (cases_lt g 2) [
        | inl low ↦ absurd (inner (small, low))
        | inr high ↦ omega (arith, root_below s g high hg)
      ]
      | inr high ↦ omega (arith, root_below s f high hf)
    ]

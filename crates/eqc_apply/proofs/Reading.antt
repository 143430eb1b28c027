-- A node that is read: its root, and its cofactors.
use native.Mathlib.Decide.{dec_le}
use Rattle.std.proofs.Common.{◌≡◌, ◌≢◌, ℕ, zero, suc, ◌+◌, ◌/◌, ◌%◌, ◌^◌, ◌<◌, ◌≤◌, Bool, true}
use Rattle.std.proofs.Common.{false, cond, List, [], refl, sym, ap, subst, ◌∙◌, arith, inl, inr}
use Rattle.eqc_tree.specs.Tree.{Tree, False, True, Node, value, StartsAbove, IsOrdered}
use Rattle.eqc_plain.specs.Store.{root}
use Rattle.eqc_core.specs.Words.{variable_of}
use Rattle.eqc_core.specs.Making.{read_node}
use Rattle.eqc_guard.specs.Known.{Known, IsHeld, IsNamed, IsKnown, tree_of}
use Rattle.eqc_guard.specs.Making.{Reads}
use Rattle.eqc_guard.specs.Standing.{Standing, Steps}
use Rattle.eqc_guard.proofs.Learning.{held_named}
use Rattle.eqc_arena.specs.Changing.{Changes}
use Rattle.eqc_arena.proofs.Changing.{reads, same_tree}
use Rattle.eqc_arena.proofs.References.{variable_is}
use Rattle.eqc_apply.specs.Names.{Has, Settles}
use Rattle.eqc_apply.specs.Before.{IsBefore, IsSeat}
use Rattle.eqc_apply.specs.Combining.{AreCofactors}
use Rattle.eqc_apply.proofs.Once.{seat_of, has_after, changes_before, before_trans, seat_trans}
use Rattle.eqc_apply.proofs.Once.{settles_before}

-- the root of a constant
pub root_constant : (n : ℕ) (k : Known) (x : ℕ) → x < 2 → root n (tree_of k x) ≡ n
root_constant n k zero small = refl
root_constant n k (suc zero) small = refl
root_constant n k (suc (suc x)) small = absurd (omega arith)

-- a node was read
module _ (x word n : ℕ) (counts : List ℕ) (old new : Standing)
    (step : Steps old (read_node old.known.core x word) new)
    (tells : Reads old.known x word new.known) (held : IsHeld old.known.core x)
    (h : Has [] n old counts) where
  pub read : Changes [] [] old.known.core.hand old.known.core.draft old new
  read = reads x word old new step

  pub read_has : Has [] n new counts
  read_has = has_after read [] [] n counts (λ y. omega arith) h

  pub read_before : IsBefore old.known new.known
  read_before = changes_before read

  pub read_seat : IsSeat old.known.core new.known.core
  read_seat = seat_of read

  module _ (p : ℕ × ℕ × ℕ) (is : p ≡ (
    word / 2 ^ 40 % 2 ^ 16,
    word / 2 ^ 20 % 2 ^ 20,
    word % 2 ^ 20,
  )) where
    pub variable_read : p.0 ≡ variable_of word
    variable_read = ap (λ (q : ℕ × ℕ × ℕ). q.0) is ∙ variable_is word tells.small

    pub root_read : p.0 ≡ root n (tree_of new.known x)
    root_read = variable_read ∙ sym (ap (root n) (same_tree read x held ∙ tells.tree))

    pub root_few : p.0 < n
    root_few = let few = tells.few in omega (arith, variable_read, h.range)

-- what is above a root
pub starts_below : (n v : ℕ) (t : Tree) → v < root n t → StartsAbove v t
starts_below n v False h = tt
starts_below n v True h = tt
starts_below n v (Node w low high) h = h

pub starts_root : (n v : ℕ) (t : Tree) → v < n → StartsAbove v t → v < root n t
starts_root n v False h s = h
starts_root n v True h s = h
starts_root n v (Node w low high) h s = s

pub starts_constant : (v : ℕ) (k : Known) (x : ℕ) → x < 2 → StartsAbove v (tree_of k x)
starts_constant v k zero small = tt
starts_constant v k (suc zero) small = tt
starts_constant v k (suc (suc x)) small = absurd (omega arith)

both_same : {A : Type 0} (b : Bool) (x : A) → x ≡ cond b x x
both_same true x = refl
both_same false x = refl

-- what starts below a variable has itself as both cofactors
pub same_cofactors : (n v x : ℕ) (k : Known) → IsHeld k.core x → StartsAbove v (tree_of k x)
    → AreCofactors n k v x x x
same_cofactors n v x k held above = record {
  low_within = held;
  high_within = held;
  above_low =
      above;
  above_high = above;
  function = λ a. both_same (a v) (value (tree_of k x) a);
}

pub less : (v top r : ℕ) → top ≡ r → top ≢ v → v ≤ r → v < r
less v top r is differ h = elim (dec_le (v + 1) r) [
  | yes below ↦ omega arith
  | no m ↦
      absurd (differ (omega arith))
]

-- the children are taken, and are the cofactors then
module _ (x word n : ℕ) (c0 c1 : List ℕ) (s0 s1 s2 s3 : Standing)
    (step : Steps s0 (read_node s0.known.core x word) s1)
    (tells : Reads s0.known x word s1.known) (held : IsHeld s0.known.core x) (h : Has [] n s0 c0)
    (low high : ℕ) (first : Settles c0 s1 s2) (has : Has [] n s2 c1)
    (low_there : IsHeld s2.known.core low) (second : Settles c1 s2 s3) where
  pub taken_before : IsBefore s0.known s3.known
  taken_before = before_trans (read_before x word n c0 s0 s1 step tells held h)
      (before_trans (settles_before (read_has x word n c0 s0 s1 step tells held h) first)
      (settles_before has second))

  pub taken_seat : IsSeat s0.known.core s3.known.core
  taken_seat = seat_trans (read_seat x word n c0 s0 s1 step tells held h) (seat_trans first.seat
      second.seat)

  pub cofactors_taken : (known : IsKnown s0.known) (p : ℕ × ℕ × ℕ) (v : ℕ) →
      tree_of s0.known x ≡ Node p.0 (tree_of s3.known low) (tree_of s3.known high) → p.0 ≡ v
      → IsHeld s3.known.core high →
      AreCofactors n s3.known v x low high
  cofactors_taken known p v is top high_there = record {
    low_within = (settles_before has second).held low low_there;
    high_within = high_there;
    above_low = ordered.0;
    above_high = ordered.1;
    function = λ a. ap (λ (t : Tree). value t a) tree;
  }
    where
      tree : tree_of s3.known x ≡ Node v (tree_of s3.known low) (tree_of s3.known high)
      tree = taken_before.tree x held
          ∙ (is ∙ ap (λ (w : ℕ). Node w (tree_of s3.known low) (tree_of s3.known high)) top)

      named : IsHeld s0.known.core x → IsNamed s0.known.core x
      named (inl small) = inl small
      named (inr some) = inr (held_named s0.known.core x some)

      ordered : IsOrdered (Node v (tree_of s3.known low) (tree_of s3.known high))
      ordered = subst IsOrdered (sym (taken_before.tree x held)
          ∙ tree) (known.canonical x (named held)).ordered

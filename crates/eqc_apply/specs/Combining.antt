-- For proofs alone: cofactors, nodes and results, among the names that a worker holds (Bryant 1986,
-- section 4.3). No public promise cites it.
use Rattle.std.specs.Prelude.{◌≡◌, ◌↔◌, ℕ, ◌<◌, ◌⊎◌, Bool, IsTrue, if◌then◌else◌}
use Rattle.eqc_tree.specs.Tree.{value, StartsAbove}
use Rattle.eqc_tree.specs.Operation.{operate}
use Rattle.eqc_tree.specs.declared.operation.Op.{Op}
use Rattle.eqc_plain.specs.Combining.{IsResult as IsRight}
use Rattle.eqc_guard.specs.Known.{Known, IsHeld, tree_of}
use Rattle.eqc_cache.specs.Placing.{HasNone, HasNode}
use Rattle.eqc_cache.specs.Peeking.{HasFreeWord}
use Rattle.eqc_apply.specs.Meaning.{meaning_of}

-- x has the function of a node, and its root is no higher than the node
pub record IsNode (variables : ℕ) (k : Known) (v low high x : ℕ) : Type 0 where
  pub within : IsHeld k.core x
  pub starts : (w : ℕ) → w < v → StartsAbove w (tree_of k x)
  pub function : (a : ℕ → Bool) → value (tree_of k x) a ≡ (if a v then value (tree_of k high) a else
      value (tree_of k low) a)

-- x is low where v is 0 and high where v is 1, and both start below v
pub record AreCofactors (variables : ℕ) (k : Known) (v x low high : ℕ) : Type 0 where
  pub low_within : IsHeld k.core low
  pub high_within : IsHeld k.core high
  pub above_low : StartsAbove v (tree_of k low)
  pub above_high : StartsAbove v (tree_of k high)
  pub function : (a : ℕ → Bool) → value (tree_of k x) a ≡ (if a v then value (tree_of k high) a else
      value (tree_of k low) a)

-- x has the operation's function on those of f and g, and starts no higher than both
abbrev pub IsResult : ℕ → Op → Known → (f g x : ℕ) → Type 0
IsResult variables op k f g x = IsRight (meaning_of variables k) op f g x

-- it is told whether the operation's function on those of f and g is that of x
abbrev pub Compares : Op → Known → (f g x : ℕ) → Bool → Type 0
Compares op k f g x same = IsTrue same ↔ ((a : ℕ → Bool)
    → operate op (value (tree_of k f) a) (value (tree_of k g) a) ≡ value (tree_of k x) a)

-- a worker that is alone has no entry in the shared cell of these operands, or that of a node, and
-- no announcement word is free for it
abbrev pub IsMissed : Op → Known → (f g : ℕ) → Type 0
IsMissed op k f g = ((HasFreeWord k.core → ⊥) × HasNode op f g k) ⊎ HasNone op f g k

-- For proofs alone: what numbers mean to an operation, in the words that its loop has of them. No
-- public promise cites it.
use Rattle.std.specs.Prelude.{ℕ, ◌<◌, ◌+◌, Bool, List, length}
use Rattle.eqc_tree.specs.Tree.{value}
use Rattle.eqc_plain.specs.Store.{tree_at, root}

-- which numbers there are, the variable at which each starts, or the number of variables for a
-- constant, and what each says
pub record Meaning : Type 1 where
  pub variables : ℕ
  pub there : ℕ → Type 0
  pub root : ℕ → ℕ
  pub says : ℕ → (ℕ → Bool) → Bool

-- the numbers over these words
abbrev pub meaning_of : ℕ → List ℕ → Meaning
meaning_of variables ws = record {
  variables = variables;
  there = λ x. x < length ws + 2;
  root =
      λ x. root variables (tree_at ws x);
  says = λ x. value (tree_at ws x);
}

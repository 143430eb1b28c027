-- For proofs alone: what a worker's names mean to an operation. No public promise cites it.
use Rattle.std.specs.Prelude.{ℕ, ◌<◌, ◌≤◌}
use Rattle.eqc_tree.specs.Tree.{value}
use Rattle.eqc_plain.specs.Store.{root}
use Rattle.eqc_plain.specs.Meaning.{Meaning}
use Rattle.eqc_core.specs.Words.{times}
use Rattle.eqc_guard.specs.Known.{Known, IsHeld, tree_of}
use Rattle.eqc_apply.specs.declared.held.Held.{Held}

-- the names that a worker holds
abbrev pub meaning_of : ℕ → Known → Meaning
meaning_of variables k = record {
  variables = variables;
  there = IsHeld k.core;
  root =
      λ x. root variables (tree_of k x);
  says = λ x. value (tree_of k x);
}

abbrev pub meaning_in : Held → Meaning
meaning_in n = meaning_of n.variables n.worker.known

-- the same names, in words of which there is one proof at most
abbrev pub kept_of : ℕ → Known → Meaning
kept_of variables k = record {
  variables = variables;
  there =
      λ x. (2 ≤ x → 0 < times x k.core.held);
  root = λ x. root variables (tree_of k x);
  says =
      λ x. value (tree_of k x);
}

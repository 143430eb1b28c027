-- When a worker may fill a cell, in the words of the entry.
use Rattle.std.specs.Prelude.{◌≡◌, ℕ, ◌*◌, ◌^◌, ◌<◌, ◌≤◌, List, [], ◌∷◌, length, Option, Some, None}
use Rattle.std.specs.Prelude.{Bool}
use Rattle.eqc_tree.specs.Tree.{value}
use Rattle.eqc_tree.specs.Operation.{operate, tag_of}
use Rattle.eqc_tree.specs.Word.{cell_word}
use Rattle.eqc_core.specs.View.{phase_at}
use Rattle.eqc_core.specs.Words.{announced_words, slots_of}
use Rattle.eqc_core.specs.Moves.{IsReady, IsQuiet, AreHeld}
use Rattle.eqc_guard.specs.declared.filled.Filled.{Filled}
use Rattle.eqc_guard.specs.Known.{Known, tree_of}

-- the word of an entry, or of none
abbrev pub word_of : Option Filled → ℕ
word_of None = 0
word_of (Some e) = cell_word (tag_of e.op) e.f.number e.g.number e.r.number

-- the names that it takes from its worker
abbrev pub entry_names : Option Filled → List ℕ
entry_names None = []
entry_names (Some e) = slots_of (e.r.number ∷ e.f.number ∷ e.g.number ∷ [])

-- its numbers fit their fields
abbrev pub AreSmall : Option Filled → Type 0
AreSmall None = Unit {0}
AreSmall (Some e) = (e.f.number < 2 ^ 20) × (e.g.number < 2 ^ 20) × (e.r.number < 2 ^ 20)

-- the worker has an entry to give: it holds each of its names as often as the entry has it, and the
-- result is right
abbrev pub HasEntry : Known → Option Filled → Type 0
HasEntry k None = Unit {0}
HasEntry k (Some e) =
    AreHeld (e.r.number ∷ e.f.number ∷ e.g.number ∷ []) k.core.held
    × ((a : ℕ → Bool) → operate e.op (value (tree_of k e.f.number) a) (value (tree_of k e.g.number)
    a) ≡ value (tree_of k e.r.number) a)

-- a worker may fill a cell with an entry, or empty it
pub record MaySwap (k : Known) (c : ℕ) (filled : Option Filled) : Type 0 where
  pub ready : IsReady k.core
  pub there : c < k.core.sizes.cells
  pub quiet : IsQuiet (phase_at k.core 0)
  pub entry : HasEntry k filled
  pub few : length k.core.retired < 2 * announced_words k.core.sizes
  pub room : length k.core.held ≤ 2 ^ 39

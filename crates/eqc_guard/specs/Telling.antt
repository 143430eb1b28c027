-- What a step tells the worker that takes it, beside its view: the word that it found, and what the
-- trees that it knows have to do with it.
use Rattle.std.specs.Prelude.{◌≡◌, ◌≢◌, ℕ, suc, ◌^◌, ◌*◌, ◌<◌, ◌≤◌, ◌⊎◌, List, get_or, set, length}
use Rattle.std.specs.Prelude.{Option, Some, None, Bool}
use mathlib.Core.Option.{some}
use lib.ListN.{get_elem?}
use Rattle.eqc_tree.specs.Tree.{Tree, value}
use Rattle.eqc_tree.specs.Operation.{operate, tag_of}
use Rattle.eqc_tree.specs.declared.operation.Op.{Op}
use Rattle.eqc_core.specs.View.{View, phase_at}
use Rattle.eqc_core.specs.declared.phase.Phase.{Phase}
use Rattle.eqc_core.specs.declared.phase.Phase.TheVariants.{Announced}
use Rattle.eqc_core.specs.Words.{announced_words, operation_of, first_of, second_of, result_of}
use Rattle.eqc_core.specs.Words.{cell_names}
use Rattle.eqc_core.specs.Moves.{IsReady, IsQuiet, AreHeld}
use Rattle.eqc_guard.specs.Known.{Known, Stepped, IsHeld, tree_of}

-- a copy of the words after the word i was set
abbrev pub copied : Option (List ℕ) → ℕ → ℕ → Option (List ℕ)
copied None i n = None
copied (Some ws) i n = Some (set ws i n)

-- the word that a step found and left, as a copy has them
pub record Copies (k : Known) (i found left : ℕ) (after : Known) : Type 0 where
  pub copy : after.copy ≡ copied k.copy i left
  pub seen : (ws : List ℕ) → k.copy ≡ Some ws → get_or ws i 0 ≡ found

-- a step by a worker, that found a number in the word i and left another, and told E; and what
-- became of the number of its steps up and down
abbrev pub Takes : {T : Type 0} → (ℕ → ℕ) → Known × List T → ℕ → ℕ → ℕ → View → Known × List T
    → (Known → Type 0) → Type 0
Takes more me i n left v after E = Stepped me.0 v after.0 × (after.1 ≡ me.1)
    × Copies me.0 i n left after.0 × E after.0 × (after.0.counted ≡ more me.0.counted)

-- a step that is none up or down
abbrev pub Told : {T : Type 0} → Known × List T → ℕ → ℕ → ℕ → View → Known × List T
    → (Known → Type 0) → Type 0
Told me i n left v after E = Takes (λ steps. steps) me i n left v after E

-- a step up or down
abbrev pub Counts : {T : Type 0} → Known × List T → ℕ → ℕ → ℕ → View → Known × List T
    → (Known → Type 0) → Type 0
Counts me i n left v after E = Takes suc me i n left v after E

-- a load that leaves the view, and takes a copy of all words; a worker that had one has that
abbrev pub Copied : {T : Type 0} → Known × List T → Known × List T → Type 0
Copied me after = Stepped me.0 me.0.core after.0 × (after.1 ≡ me.1)
    × ((ws : List ℕ) × (after.0.copy ≡ Some ws) × ((had : List ℕ) → me.0.copy ≡ Some had
    → ws ≡ had)) × (after.0.counted ≡ me.0.counted)

-- a store does not tell what it found
abbrev pub Stored : {T : Type 0} → Known × List T → ℕ → ℕ → View → Known × List T → Type 0
Stored me i left v after = Stepped me.0 v after.0 × (after.1 ≡ me.1)
    × (after.0.copy ≡ copied me.0.copy i left) × (after.0.counted ≡ me.0.counted)

abbrev pub Nothing : ℕ → Known → Type 0
Nothing n k = Unit {0}

-- the operation of the word on the functions that the worker knows of its operands gives the tree's
abbrev pub IsResult : Known → ℕ → Tree → Type 0
IsResult k word t =
    IsHeld k.core (first_of word) → IsHeld k.core (second_of word) → (op : Op) → operation_of word
    ≡ tag_of op
    → (a : ℕ → Bool) → operate op (value (tree_of k (first_of word)) a)
    (value (tree_of k (second_of word)) a) ≡ value t a

-- what a look tells of a cell that is not empty: its result is a name, and where that is a
-- constant, it is right
pub record Shown (me : Known) (n : ℕ) : Type 0 where
  pub below : result_of n < me.core.sizes.names
  pub constant : result_of n < 2 → IsResult me n (tree_of me (result_of n))

abbrev pub Looks : Known → ℕ → Known → Type 0
Looks me n k = n ≢ 0 → Shown me n

-- what a second look for the i-th announcement word tells: where it finds the word again, the
-- result is right, and its tree is known
abbrev pub Rechecks : Known → ℕ → ℕ → Known → Type 0
Rechecks me i n k = (c word : ℕ) → phase_at me.core i ≡ Announced c word → n ≡ word
    → IsResult me word (tree_of k (result_of word))

-- a load that leaves the view tells that each tree that the worker kept is the one that it knows
abbrev pub Settles : Known → ℕ → Known → Type 0
Settles me n k = (i : ℕ) (p : ℕ × Tree) → get_elem? me.trees i ≡ some p → tree_of k p.0 ≡ p.1

-- a second look found the word that was announced
abbrev pub HasFound : Phase → ℕ → Type 0
HasFound p found = (c word : ℕ) → p ≡ Announced c word → found ≡ word

-- the worker knows by its trees that the word is right
pub record IsRightHere (k : Known) (word : ℕ) : Type 0 where
  pub operation : Op
  pub tag : operation_of word ≡ tag_of operation
  pub right : (a : ℕ → Bool) → operate operation (value (tree_of k (first_of word)) a)
      (value (tree_of k (second_of word)) a) ≡ value (tree_of k (result_of word)) a

-- a worker may fill a cell with the word, or empty it: it holds the word's names, and knows that it
-- is right
pub record MayFill (k : Known) (c word : ℕ) : Type 0 where
  pub ready : IsReady k.core
  pub there : c < k.core.sizes.cells
  pub quiet : IsQuiet (phase_at k.core 0)
  pub right : (word ≡ 0) ⊎ IsRightHere k word
  pub held : AreHeld (cell_names word) k.core.held
  pub few : length k.core.retired < 2 * announced_words k.core.sizes
  pub room : length k.core.held ≤ 2 ^ 39

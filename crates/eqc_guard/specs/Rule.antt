-- The rule of the table: the words are the machine's words in a row, the state is lawful, and what
-- each worker knows is so.
use Rattle.std.specs.Prelude.{◌≡◌, ℕ, zero, suc, ◌+◌, ◌*◌, ◌<◌, ◌≤◌, List, [], ◌∷◌, map, Some, None}
use Rattle.std.specs.Prelude.{true, false}
use mathlib.Core.Option.{Option, some, none}
use lib.ListN.{get_elem?}
use Rattle.std.specs.HashMap.{HashMap}
use Rattle.atomic_table.specs.Table.{State}
use Rattle.atomic_table.specs.Seated.{TableId}
use Rattle.eqc_core.specs.declared.sizes.Sizes.{Sizes}
use Rattle.eqc_core.specs.View.{View, fresh}
use Rattle.eqc_core.specs.Words.{Words, announced_words}
use Rattle.eqc_core.specs.Tables.{Entries, Homes}
use Rattle.eqc_core.specs.Lawful.{Lawful}
use Rattle.eqc_tree.specs.Tree.{Tree, False, True, Node}
use Rattle.eqc_core.specs.State.{IsWithinLimits, slots_from}
use Rattle.eqc_guard.specs.Known.{flat, Known, Knows, IsExact, IsKnown}

-- the entries of a table at home
abbrev pub entries_at : {S : Type 0} → Option (HashMap ℕ ℕ S) → Option Entries
entries_at (some m) = some m.entries
entries_at none = none

abbrev pub homes_of : {S : Type 0} → List (Option (HashMap ℕ ℕ S)) → Homes
homes_of hs = map entries_at hs

abbrev pub cores : List Known → List View
cores ks = map (λ (k : Known). k.core) ks

-- where the words of each kind begin; announcements come first, and the i-th of them is the word 2
-- * i
abbrev pub counts_from : Sizes → ℕ
counts_from z = 2 * announced_words z

abbrev pub nodes_from : Sizes → ℕ
nodes_from z = counts_from z + z.names

abbrev pub cells_from : Sizes → ℕ
cells_from z = counts_from z + (z.names + z.names)

abbrev pub boxes_from : Sizes → ℕ
boxes_from z = cells_from z + z.cells

-- the lock of stripe s is the word locks_from z + 8 * s
abbrev pub locks_from : Sizes → ℕ
locks_from z = boxes_from z + 16 * z.workers

abbrev pub all_words : Sizes → ℕ
all_words z = boxes_from z + (16 * z.workers + 128)

-- the sizes of a forest, with four announcement words for each worker
abbrev pub sizes_of : ℕ → ℕ → ℕ → ℕ → Sizes
sizes_of vars nodes cells workers = record {
  workers = workers;
  announcements = 4;
  names =
      nodes + 2;
  cells = cells;
  variables = vars;
}

-- the trees of the literals of n variables, from i on: variable i has the slot 2 + i
abbrev pub literal_trees : ℕ → ℕ → List (ℕ × Tree)
literal_trees i zero = []
literal_trees i (suc n) = (2 + i, Node i False True) ∷ literal_trees (suc i) n

-- what worker 0 knows at the beginning: it holds the literals of n variables, each once, has no
-- copy of the words, and has made no step
abbrev pub beginner : Sizes → ℕ → Known
beginner z n = record {
  core = record (fresh z 0) { held = slots_from 2 n; given = 1 };
  trees =
      literal_trees 0 n;
  copy = None;
  counted = 0;
}

-- a copy is the words, and nobody else is active
pub record CopyHolds (words : List ℕ) (views : List Known) (id : ℕ) (ws : List ℕ) : Type 0 where
  pub same : ws ≡ words
  pub alone : (j : ℕ) (u : Known) → (j ≡ id → ⊥) → get_elem? views j ≡ some u
      → u.core.active ≡ false

pub record Held {S : Type 0} (z : Sizes) (s : State (HashMap ℕ ℕ S) Known) : Type 0 where
  pub words : Words
  pub laid : s.words ≡ flat words
  pub lawful : Lawful z words (homes_of s.homes) (cores s.views)
  pub knows : (id : ℕ) (k : Known) → get_elem? s.views id ≡ some k → k.core.active ≡ true
      → Knows words.nodes k
  pub exact : (id : ℕ) (k : Known) → get_elem? s.views id ≡ some k → k.core.active ≡ true
      → IsExact words.nodes k
  pub copies : (id : ℕ) (k : Known) (ws : List ℕ) → get_elem? s.views id ≡ some k → k.copy ≡ Some ws
      → CopyHolds s.words s.views id ws

-- a seat's view and slots fit the table and the sizes
pub record IsWorker {T : Type 0} (id : TableId) (z : Sizes) (me : Known × List T) : Type 0 where
  pub words : id.words ≡ all_words z
  pub limits : IsWithinLimits z
  pub few_words : z.announcements ≤ 4
  pub few_announced : announced_words z ≤ 256
  pub few_workers : z.workers ≤ 64
  pub sizes : me.0.core.sizes ≡ z
  pub active : me.0.core.active ≡ true
  pub number : me.0.core.number < z.workers
  pub known : IsKnown me.0

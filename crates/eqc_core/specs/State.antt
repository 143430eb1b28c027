-- A state of the machine, and the states in which runs begin.
use Rattle.std.specs.Prelude.{ℕ, zero, suc, ◌+◌, ◌-◌, ◌*◌, ◌^◌, ◌<◌, ◌≤◌, List, [], ◌∷◌, ◌++◌}
use Rattle.std.specs.Prelude.{if◌then◌else◌, eqb}
use mathlib.Core.Option.{some}
use Rattle.eqc_tree.specs.Word.{node_word}
use Rattle.eqc_core.specs.declared.sizes.Sizes.{Sizes}
use Rattle.eqc_core.specs.View.{View, fresh}
use Rattle.eqc_core.specs.Words.{Words, announced_words, stripe_of}
use Rattle.eqc_core.specs.Tables.{Entries, Homes}
use Rattle.eqc_core.specs.Lawful.{Lawful}

pub record State : Type 0 where
  pub sizes : Sizes
  pub words : Words
  pub homes : Homes
  pub views : List View

abbrev pub IsLawful : State → Type 0
IsLawful s = Lawful s.sizes s.words s.homes s.views

-- the sizes for which everything here is proved
pub record IsWithinLimits (z : Sizes) : Type 0 where
  pub some_workers : 0 < z.workers
  pub few_workers : z.workers ≤ 2 ^ 20
  pub some_announcements : 0 < z.announcements
  pub few_announced : announced_words z ≤ 2 ^ 22
  pub some_names : 2 ≤ z.names
  pub few_names : z.names ≤ 2 ^ 20
  pub few_cells : z.cells ≤ 2 ^ 20
  pub few_variables : z.variables ≤ 2 ^ 16

abbrev pub repeated : ℕ → ℕ → List ℕ
repeated x zero = []
repeated x (suc n) = x ∷ repeated x n

-- the word of the literal of a variable: its low child is false, its high child true
abbrev pub literal : ℕ → ℕ
literal i = node_word i 0 1

-- the words of the literals of n variables, from i on
abbrev pub literals : ℕ → ℕ → List ℕ
literals i zero = []
literals i (suc n) = literal i ∷ literals (suc i) n

-- the slots of n literals, from x on
abbrev pub slots_from : ℕ → ℕ → List ℕ
slots_from x zero = []
slots_from x (suc n) = x ∷ slots_from (suc x) n

-- those of n literals, from i on, that stand in the stripe s: the literal of variable i has the
-- slot 2 + i
abbrev pub stripe_entries : ℕ → ℕ → ℕ → Entries
stripe_entries s i zero = []
stripe_entries s i (suc n) = if eqb (stripe_of (literal i)) s then (literal i, 2 + i)
    ∷ stripe_entries s (suc i) n else stripe_entries s (suc i) n

-- the tables of k stripes, from s on
abbrev pub homes_from : ℕ → ℕ → ℕ → Homes
homes_from s zero n = []
homes_from s (suc k) n = some (stripe_entries s 0 n) ∷ homes_from (suc s) k n

-- the 16 tables
unfoldable pub literal_homes : ℕ → Homes
literal_homes n = homes_from 0 16 n

-- the literals of the first n variables stand in their tables, each held once by worker 0, which is
-- alone and at rest
abbrev pub opening : Sizes → ℕ → State
opening z n = record {
  sizes = z;
  words = record {
    announced = repeated 0 (announced_words z);
    counts = 0 ∷ 0 ∷ repeated 2 n ++ repeated 0 (z.names - (n + 2));
    nodes = 0 ∷ 0 ∷ literals 0 n ++ repeated 0 (z.names - (n + 2));
    cells = repeated 0 z.cells;
    boxes = repeated 0 (16 * z.workers);
    locks = repeated 0 16;
  };
  homes = literal_homes n;
  views = record (fresh z 0) { held = slots_from 2 n; given = 1 } ∷ [];
}

-- the empty forest: all words are 0
abbrev pub empty : Sizes → State
empty z = opening z 0

-- as many slots as variables, each with the literal of its variable; each worker has four
-- announcement words
abbrev pub stocked : ℕ → ℕ → ℕ → State
stocked workers nodes cells = opening (record {
  workers = workers;
  announcements = 4;
  names =
      nodes + 2;
  cells = cells;
  variables = nodes;
}) nodes

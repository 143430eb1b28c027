-- A collection by a worker that is alone and holds nothing, told of its copy of the words: a slot
-- is in a table exactly where its count is above 0, and then it stands in the stripe of its node
-- word.
use Rattle.std.specs.Prelude.{◌≡◌, ◌≢◌, ℕ, ◌+◌, ◌*◌, ◌<◌, ◌≤◌, List, [], get_or, Some, None}
use mathlib.Core.Option.{some}
use lib.ListN.{get_elem?}
use Rattle.eqc_core.specs.declared.sizes.Sizes.{Sizes}
use Rattle.eqc_core.specs.Words.{variable_of, stripe_of}
use Rattle.eqc_core.specs.Tables.{Entries}
use Rattle.eqc_core.specs.Moves.{IsReady}
use Rattle.eqc_guard.specs.Known.{Known, IsKnown}
use Rattle.eqc_guard.specs.Sweeping.{IsSilent}
use Rattle.eqc_guard.specs.Rule.{counts_from, nodes_from, cells_from, boxes_from}

-- the words of a slot's count and of its node, in a copy of the words
abbrev pub count_in : Sizes → List ℕ → ℕ → ℕ
count_in z ws x = get_or ws (counts_from z + x) 0

abbrev pub node_in : Sizes → List ℕ → ℕ → ℕ
node_in z ws x = get_or ws (nodes_from z + x) 0

-- a slot with a count above 0
abbrev pub IsCounted : Sizes → List ℕ → ℕ → Type 0
IsCounted z ws x = (2 ≤ x) × (x < z.names) × (0 < count_in z ws x)

-- no slot has one, in the copy of a worker that has a copy
abbrev pub HasNoCounts : Known → Type 0
HasNoCounts k = (ws : List ℕ) → k.copy ≡ Some ws → (x : ℕ) → 2 ≤ x → x < k.core.sizes.names
    → count_in k.core.sizes ws x ≡ 0

-- a worker that is alone has a copy of the words, holds nothing, announces nothing by any of its
-- announcement words but the first, and finds all boxes empty
pub record MayEmpty (k : Known) : Type 0 where
  pub words : List ℕ
  pub copy : k.copy ≡ Some words
  pub holds : k.core.held ≡ []
  pub silent : IsSilent k.core
  pub boxes : (b : ℕ) → b < 16 * k.core.sizes.workers → get_or words (boxes_from k.core.sizes + b) 0
      ≡ 0

-- all cells and boxes are empty
abbrev pub AreBlank : Sizes → List ℕ → Type 0
AreBlank z ws = (c : ℕ) → c < z.cells + 16 * z.workers → get_or ws (cells_from z + c) 0 ≡ 0

-- each slot that is counted has a variable of at least n
abbrev pub AllFrom : ℕ → Sizes → List ℕ → Type 0
AllFrom n z ws = (x : ℕ) → IsCounted z ws x → n ≤ variable_of (node_in z ws x)

-- a slot that was tried and is counted still has a greater variable than n, and not the count 1
-- where nothing was taken back
abbrev pub IsPast : ℕ → ℕ → ℕ → ℕ → Type 0
IsPast n taken word count = (n < variable_of word) × (taken ≡ 0 → count ≢ 1)

-- so it is with each in the first stripes
abbrev pub AreDone : ℕ → ℕ → ℕ → Sizes → List ℕ → Type 0
AreDone n stripe taken z ws = (x : ℕ) → IsCounted z ws x → stripe_of (node_in z ws x) < stripe
    → IsPast n taken (node_in z ws x) (count_in z ws x)

-- and with each entry of a stripe's map from the i-th on
abbrev pub AreTried : ℕ → ℕ → ℕ → Entries → Sizes → List ℕ → Type 0
AreTried n taken i t z ws = (j : ℕ) (e : ℕ × ℕ) → i ≤ j → get_elem? t j ≡ some e
    → IsCounted z ws e.1 → IsPast n taken e.0 (count_in z ws e.1)

-- in a turn that began with variables of at least n, after the first stripes: so many nodes were
-- taken back, and the worker is alone, holds these names alone, has nothing retired and no draft,
-- and no scan is under way
pub record IsBetween (held : List ℕ) (n stripe taken : ℕ) (k : Known) : Type 0 where
  pub words : List ℕ
  pub copy : k.copy ≡ Some words
  pub holds : k.core.held ≡ held
  pub retired : k.core.retired ≡ []
  pub ready : IsReady k.core
  pub draft : k.core.draft ≡ None
  pub blank : AreBlank k.core.sizes words
  pub from : AllFrom n k.core.sizes words
  pub done : AreDone n stripe taken k.core.sizes words
  pub known : IsKnown k

-- between two turns: each slot that is counted has a variable of at least n
abbrev pub IsFrom : ℕ → Known → Type 0
IsFrom n k = IsBetween [] n 0 0 k

-- within a stripe, whose map has these entries
pub record IsTrying (held : List ℕ) (n stripe taken i : ℕ) (t : Entries) (k : Known) : Type 0 where
  pub between : IsBetween held n stripe taken k
  pub tried : AreTried n taken i t k.core.sizes between.words

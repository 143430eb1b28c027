-- What keeps a confirmed name from being given again (Anderson, Blelloch and Wei 2021: no eject of
-- a name that an announcement from before its retire protects).
use Rattle.std.specs.Prelude.{◌≡◌, ℕ, ◌<◌, ◌≤◌, ◌⊎◌, List}
use mathlib.Core.Option.{some}
use lib.ListN.{get_elem?}
use Rattle.eqc_core.specs.View.{View}
use Rattle.eqc_core.specs.declared.phase.Phase.{Phase}
use Rattle.eqc_core.specs.declared.phase.Phase.TheVariants.{Idle, Seen, Announced, Confirmed}
use Rattle.eqc_core.specs.declared.phase.Phase.TheVariants.{Missed}
use Rattle.eqc_core.specs.Words.{result_of, times}

-- the name that stands in the announcement word; 0 is none
abbrev pub announces : Phase → ℕ
announces Idle = 0
announces (Seen c word) = 0
announces (Announced c word) = result_of word
announces (Confirmed x) = x
announces (Missed x) = x

-- the view protects the name for the announcement word i: it has the name retired, and its scan has
-- not passed that word, or has noted the name
abbrev pub Protects : ℕ → ℕ → View → Type 0
Protects i x v = (0 < times x v.retired) × ((v.position ≤ i) ⊎ (0 < times x v.noted))

-- a name that the announcement word i confirms is in no danger: a cell has it as its result, or a
-- view protects it.
-- It does not matter what the scanner itself announces.
abbrev pub Supported : List ℕ → List View → ℕ → ℕ → Type 0
Supported cells vs i x =
    ((c : ℕ) × (word : ℕ) × (get_elem? cells c ≡ some word) × (result_of word ≡ x))
    ⊎ ((k : ℕ) × (v : View) × (get_elem? vs k ≡ some v) × Protects i x v)

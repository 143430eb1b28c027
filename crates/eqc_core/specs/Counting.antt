-- A count word goes up and down with the names that a worker holds (Anderson, Blelloch and Wei
-- 2021: increment and decrement).
use Rattle.std.specs.Prelude.{◌≡◌, ℕ, ◌-◌, ◌^◌, ◌<◌, ◌≤◌, ◌⊎◌, [], ◌∷◌, ◌++◌, length, Some}
use mathlib.Core.Option.{some}
use lib.ListN.{get_elem?}
use Rattle.eqc_core.specs.declared.phase.Phase.TheVariants.{Confirmed}
use Rattle.eqc_core.specs.View.{View, Hand, Read}
use Rattle.eqc_core.specs.Words.{times, children}
use Rattle.eqc_core.specs.Tables.{table_has}
use Rattle.eqc_core.specs.Moves.{IsReady, with_held, without}

-- the view knows that the slot stays: it holds it, has confirmed it, has it in the stripe in hand,
-- or read it as a child of a node that it holds
abbrev pub Knows : View → ℕ → Type 0
Knows v x =
    (0 < times x v.held)
    ⊎ (((k : ℕ) × (get_elem? v.phases k ≡ some (Confirmed x)))
    ⊎ (((h : Hand) × (v.hand ≡ Some h) × (0 < table_has x h.entries))
    ⊎ ((r : Read) × (v.read ≡ Some r) × (0 < times x (children r.word)))))

abbrev pub MayUp : View → ℕ → Type 0
MayUp v x = IsReady v × (2 ≤ x) × (x < v.sizes.names) × (length v.held < 2 ^ 32 - 1) × Knows v x

abbrev pub upped : View → ℕ → View
upped v x = with_held v (v.held ++ x ∷ [])

abbrev pub MayDown : View → ℕ → Type 0
MayDown v x = IsReady v × (2 ≤ x) × (x < v.sizes.names) × (0 < times x v.held)

abbrev pub downed : View → ℕ → View
downed v x = with_held v (without x v.held)

-- A stripe's lock is taken, and with it the stripe's map out of its slot; and both go back.
use Rattle.std.specs.Prelude.{◌≡◌, ℕ, List, ◌∷◌, eqb, MatchBool}
use Rattle.std.specs.HashMap.{HashMap}
use Rattle.atomic_table.specs.Table.{rest}
use Rattle.eqc_core.specs.View.{View, Hand}
use Rattle.eqc_core.specs.Tables.{Entries}
use Rattle.eqc_core.specs.Locking.{locked, unlocked, MayUnlock}
use Rattle.eqc_guard.specs.Known.{Known, Stepped}
use Rattle.eqc_guard.specs.Telling.{Told, Nothing, Copies, copied}

-- a try for the lock of the stripe s, that found n in its word: it is won where that is 0, and the
-- stripe's map is out with the seat then
abbrev pub Locks : {S : Type 0} → Known × List (ℕ × HashMap ℕ ℕ S) → ℕ → ℕ → ℕ → Known
    × List (ℕ × HashMap ℕ ℕ S) → Type 0
Locks {S} me i s n after =
    MatchBool (eqb n 0)
    ((m : HashMap ℕ ℕ S) × Stepped me.0 (locked me.0.core s m.entries) after.0
    × (after.1 ≡ (s, m) ∷ me.1) × Copies me.0 i n 1 after.0 × (after.0.counted ≡ me.0.counted))
    (Told me i n n me.0.core after (Nothing n))

-- the map that is out with the seat is at home again
abbrev pub Unlocks : {T : Type 0} → Known × List (ℕ × T) → ℕ → ℕ → Known × List (ℕ × T) → Type 0
Unlocks me i left after = Stepped me.0 (unlocked me.0.core) after.0 × (after.1 ≡ rest me.1)
    × (after.0.copy ≡ copied me.0.copy i left) × (after.0.counted ≡ me.0.counted)

-- the stripe s is in hand, and the map to go home has its entries, in any order
abbrev pub MayHome : View → ℕ → Entries → Type 0
MayHome v s t = (h : Hand) × (h.stripe ≡ s) × MayUnlock v h t

-- The ticket word, from which members draw the numbers of outputs. The rule: the numbers in all
-- views are those below the
-- word, each once, and a view has at most as many numbers that are no output as it stands for
-- seats.
use Rattle.std.specs.Prelude.{◌≡◌, ℕ, ◌+◌, ◌-◌, ◌/◌, ◌^◌, ◌<◌, ◌≤◌, List, [], ◌∷◌, ◌++◌, length}
use Rattle.std.specs.Prelude.{slice_index, eqb, ltb, if◌then◌else◌}
use mathlib.Core.Option.{some}
use lib.ListN.{get_elem?}
use Rattle.atomic_table.specs.Table.{State}
use Rattle.atomic_table.specs.Seated.{TableId}
use Rattle.atomic_table.specs.declared.shared.Seat.{Seat}
use Rattle.eqc_parallel.specs.declared.ticket.View.{View}
use Rattle.eqc_parallel.specs.declared.ticket.Key.{Key}

abbrev pub view : ℕ → List ℕ → View
view seats drawn = record { seats = seats; drawn = drawn }

-- how often a number stands in a list
abbrev pub times : ℕ → List ℕ → ℕ
times x [] = 0
times x (y ∷ ys) = (if eqb y x then 1 else 0) + times x ys

-- how many numbers are no output, of so many outputs
abbrev pub strangers : ℕ → List ℕ → ℕ
strangers outputs [] = 0
strangers outputs (y ∷ ys) = (if ltb y outputs then 0 else 1) + strangers outputs ys

-- the sum over all views
abbrev pub total : (View → ℕ) → List View → ℕ
total f [] = 0
total f (v ∷ vs) = f v + total f vs

-- how often a number stands among those below n, each of them once
abbrev pub once_below : ℕ → ℕ → ℕ
once_below x n = if ltb x n then 1 else 0

-- the views where the word is n
pub record Counts (k : Key) (n : ℕ) (views : List View) : Type 0 where
  pub small : k.outputs + k.seats < 2 ^ 64
  pub seats : total (λ v. v.seats) views ≡ k.seats
  pub numbers : (x : ℕ) → total (λ v. times x v.drawn) views ≡ once_below x n
  pub beyond : total (λ v. strangers k.outputs v.drawn) views ≡ n - k.outputs
  pub few : (id : ℕ) (v : View) → get_elem? views id ≡ some v → strangers k.outputs v.drawn
      ≤ v.seats
  pub idle : (id : ℕ) (v : View) → get_elem? views id ≡ some v → v.seats ≡ 0 → v.drawn ≡ []

-- the rule of the table, which has the one word
abbrev pub IsTicket : {S : Type 0} → Key → State S View → Type 0
IsTicket k s = (length s.words ≡ 1) × Counts k (slice_index s.words 0) s.views

-- the first view stands for all seats
abbrev pub opening_view : Key → View
opening_view k = view k.seats []

-- a number was drawn
abbrev pub drew : View → ℕ → View
drew v n = view v.seats (v.drawn ++ n ∷ [])

-- what is left where half of the seats are handed on, and what is handed on
abbrev pub halved : View → View
halved v = view (v.seats - v.seats / 2) v.drawn

abbrev pub half : View → View
half v = view (v.seats / 2) []

-- a view that takes in another, and what is left of the other
abbrev pub both : View → View → View
both v w = view (v.seats + w.seats) (v.drawn ++ w.drawn)

abbrev pub spent : View
spent = view 0 []

-- a number is above all of a list
abbrev pub IsAbove : ℕ → List ℕ → Type 0
IsAbove n xs = (x : ℕ) → 0 < times x xs → x < n

-- a seat is of this table, which has one word and no slot
abbrev pub IsSeat : TableId → Seat ℕ View → Type 0
IsSeat id s = (s.table_id ≡ id) × (id.words ≡ 1) × (id.slots ≡ 0) × (s.me.1 ≡ [])

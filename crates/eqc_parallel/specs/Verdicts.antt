-- What members find at the outputs that they draw, and all of it put in order.
use Rattle.std.specs.Prelude.{◌≡◌, ◌≢◌, ℕ, ◌+◌, ◌<◌, ◌≤◌, Bool, true, false, IsTrue, List, [], ◌∷◌}
use Rattle.std.specs.Prelude.{length, map, ltb, Option, Some, None, All, Vec, vec_len, ◌^◌}
use Rattle.std.specs.Prelude.{if◌then◌else◌}
use Rattle.std.specs.declared.alloc.Global.{Global}
use Rattle.atomic_table.specs.Seated.{TableId}
use Rattle.atomic_table.specs.declared.shared.Seat.{Seat}
use Rattle.eqc_tree.specs.Holding.{Holding}
use Rattle.eqc_parallel.specs.declared.ticket.Key.{Key}
use Rattle.eqc_parallel.specs.declared.ticket.View.{View}
use Rattle.eqc_parallel.specs.declared.verdict.Finding.{Finding}
use Rattle.eqc_parallel.specs.declared.verdict.Finding.TheVariants.{Equal, Differs, Behind}
use Rattle.eqc_parallel.specs.declared.verdict.Verdict.{Verdict}
use Rattle.eqc_pair.specs.PairOf.{PairOf}
use Rattle.eqc_compare.specs.Comparing.{told_at}
use Rattle.eqc_parallel.specs.Ticket.{IsSeat, strangers, times, once_below}

-- what is asked of a pair: every output that differs, or the first alone
pub record Question : Type 0 where
  pub pair : PairOf
  pub every : Bool

abbrev pub asked : PairOf → Bool → Question
asked p every = record { pair = p; every = every }

-- the first that differs is asked for alone, and an output before this position differs
abbrev pub DiffersBefore : Question → ℕ → Type 0
DiffersBefore q output = (q.every ≡ false) × ((earlier : ℕ) × (earlier < output)
    × (told_at q.pair earlier ≢ None))

-- what is found at an output: there is nothing to be told of it; it differs, first under these
-- values; or one before it differs
abbrev pub IsFoundAt : Question → ℕ → Finding → Type 0
IsFoundAt q output Equal = told_at q.pair output ≡ None
IsFoundAt q output (Differs values) = told_at q.pair output ≡ Some values.items
IsFoundAt q output Behind = DiffersBefore q output

-- whether this output or one before it differs
abbrev pub tells_difference : Finding → Bool
tells_difference Equal = false
tells_difference (Differs values) = true
tells_difference Behind = true

abbrev pub IsRight : Question → Verdict → Type 0
IsRight q v = IsFoundAt q v.output v.finding

-- the outputs that verdicts name
abbrev pub named : List Verdict → List ℕ
named verdicts = map (λ v. v.output) verdicts

-- those numbers that are an output, of so many outputs
abbrev pub insiders : ℕ → List ℕ → List ℕ
insiders outputs [] = []
insiders outputs (y ∷ ys) = if ltb y outputs then y ∷ insiders outputs ys else insiders outputs ys

-- a seat that stands for so many members has drawn a number that is no output for each, and each
-- output that it drew has
-- its verdict
pub record IsShare (q : Question) (id : TableId) (members : ℕ) (seat : Seat ℕ View)
    (verdicts : List Verdict) : Type 0 where
  pub own : IsSeat id seat
  pub seats : seat.me.0.seats ≡ members
  pub done : strangers (length q.pair.first.outputs) seat.me.0.drawn ≡ members
  pub each : named verdicts ≡ insiders (length q.pair.first.outputs) seat.me.0.drawn
  pub right : All (IsRight q) verdicts

-- a seat for so many members, of which none has drawn, at the outputs of a pair
pub record IsFresh (p : PairOf) (id : TableId) (key : Key) (members : ℕ) (seat : Seat ℕ View) : Type
    0 where
  pub own : IsSeat id seat
  pub outputs : key.outputs ≡ length p.first.outputs
  pub seats : seat.me.0.seats ≡ members
  pub drawn : seat.me.0.drawn ≡ []

-- members that compare a pair: each has diagrams with a variable for each input, and 32 bits number
-- them and the outputs
pub record AreMembers {D : Type 0} (holding : D → Holding) (p : PairOf) (members : Vec D Global) :
    Type 0 where
  pub outputs : length p.first.outputs < 2 ^ 32
  pub some : 1 ≤ vec_len members
  pub numbers : vec_len members < 2 ^ 32
  pub variables : All (λ d. length p.first.inputs ≤ (holding d).variables) members.items

-- members that share a seat: each has diagrams with a variable for each input, and all have
-- numbers, from the first one's on
pub record AreSeated {D : Type 0} (holding : D → Holding) (p : PairOf) (id : TableId) (key : Key)
    (seat : Seat ℕ View) (first : ℕ) (members : Vec D Global) : Type 0 where
  pub fresh : IsFresh p id key (vec_len members) seat
  pub some : 1 ≤ vec_len members
  pub numbers : first + vec_len members < 2 ^ 32
  pub variables : All (λ d. length p.first.inputs ≤ (holding d).variables) members.items

-- a member between two draws: all its numbers are outputs, the last is below `least`, and it knows
-- of an earlier difference
-- where it says so
pub record IsWork (q : Question) (id : TableId) (least : ℕ) (behind : Bool) (seat : Seat ℕ View)
    (verdicts : List Verdict) : Type 0 where
  pub own : IsSeat id seat
  pub seats : seat.me.0.seats ≡ 1
  pub going : strangers (length q.pair.first.outputs) seat.me.0.drawn ≡ 0
  pub each : named verdicts ≡ insiders (length q.pair.first.outputs) seat.me.0.drawn
  pub right : All (IsRight q) verdicts
  pub below : least ≤ length q.pair.first.outputs
  pub last : (x : ℕ) → least ≡ x + 1 → 0 < times x seat.me.0.drawn
  pub knows : IsTrue behind → DiffersBefore q least

-- verdicts name each of so many outputs once, and nothing else
abbrev pub AreOnce : ℕ → List Verdict → Type 0
AreOnce outputs verdicts = (x : ℕ) → times x (named verdicts) ≡ once_below x outputs

-- verdicts of all outputs of a pair, one for each
pub record AreVerdicts (q : Question) (verdicts : List Verdict) : Type 0 where
  pub once : AreOnce (length q.pair.first.outputs) verdicts
  pub right : All (IsRight q) verdicts

-- what stands at a place: nothing where the output's verdict is among the rest, else what was found
-- there
abbrev pub Stands : Question → List Verdict → ℕ → Option Finding → Type 0
Stands q rest output None = 0 < times output (named rest)
Stands q rest output (Some found) = IsFoundAt q output found × (times output (named rest) ≡ 0)

-- When steps are used, in comparisons that go over the outputs in rising order. A moment is an
-- output, counted from 1, and a
-- step, counted from 1, as one number: moments of later outputs are later, whatever the step.
use Rattle.std.specs.Prelude.{◌≡◌, ℕ, ◌+◌, ◌*◌, ◌<◌, ◌≤◌, true, nat_eq, List, length, Option}
use Rattle.std.specs.Prelude.{slice_index, IsSome, ◌⊎◌}
use Rattle.std.specs.List.{list_any}
use Rattle.eqc_build.specs.Building.{reference_of}
use Rattle.eqc_build.specs.Steps.{StepsOf, steps_in, uses_of}

abbrev pub moment : ℕ → ℕ → ℕ
moment output step = output * 4294967296 + step

-- the moment at which an output is compared, behind all its steps
abbrev pub end_of : StepsOf → ℕ → ℕ
end_of g output = moment output (steps_in g.pair + 1)

-- the last moment at which each step is used: one that an output, or a later one, needs uses others
-- when it is made for
-- that output
pub record AreLastMoments (g : StepsOf) (last : List ℕ) : Type 0 where
  pub size : length last ≡ steps_in g.pair
  pub closed : (k c output : ℕ) → k < steps_in g.pair → c < length (uses_of g k) → 1 ≤ output
      → moment output 0 ≤ slice_index last k →
      moment output (k + 1) ≤ slice_index last (slice_index (uses_of g k) c)

-- a number is noted for those of the first n steps whose number is lower
pub record IsRaised (old new steps : List ℕ) (n at : ℕ) : Type 0 where
  pub size : length new ≡ length old
  pub grown : (s : ℕ) → slice_index old s ≤ slice_index new s
  pub noted : (k : ℕ) → k < n → at ≤ slice_index new (slice_index steps k)
  pub others : (s : ℕ) → (slice_index new s ≡ slice_index old s)
      ⊎ ((k : ℕ) × (k < n) × (slice_index steps k ≡ s))

-- a moment is noted for those of the first n steps whose moment is earlier, and that have a place
pub record AreLasting (old new steps : List ℕ) (n at : ℕ) : Type 0 where
  pub size : length new ≡ length old
  pub grown : (s : ℕ) → slice_index old s ≤ slice_index new s
  pub noted : (k : ℕ) → k < n → slice_index steps k < length new
      → at ≤ slice_index new (slice_index steps k)

-- what one of these steps uses is noted to be used in its turn until that is made, or later, and a
-- goal until the end
pub record AreUsedInTurn (g : StepsOf) (until : List ℕ) (output : ℕ) (wanted goals : List ℕ) : Type
    0 where
  pub uses : (i c : ℕ) → i < length wanted → c < length (uses_of g (slice_index wanted i)) →
      slice_index (uses_of g (slice_index wanted i)) c < length until →
      moment output (slice_index wanted i + 1)
      ≤ slice_index until (slice_index (uses_of g (slice_index wanted i)) c)
  pub goals_end : (k : ℕ) → k < length goals → slice_index goals k < length until
      → end_of g output ≤ slice_index until (slice_index goals k)

-- whether a step stands in the list behind the first n
abbrev pub IsBehind : List ℕ → ℕ → ℕ → Type 0
IsBehind wanted n k = (j : ℕ) × (n ≤ j) × (j < length wanted) × (slice_index wanted j ≡ k)

-- the steps that are still to be made for an output, highest first: what each uses has a reference
-- or stands behind it, and
-- the output needs them all
pub record AreWanted {X : Type 0} (g : StepsOf) (last : List ℕ) (table : List (Option X))
    (output : ℕ) (wanted : List ℕ) : Type 0 where
  pub within : (i : ℕ) → i < length wanted → slice_index wanted i < steps_in g.pair
  pub falling : (i j : ℕ) → i < j → j < length wanted → slice_index wanted j < slice_index wanted i
  pub needed : (i : ℕ) → i < length wanted
      → moment output 0 ≤ slice_index last (slice_index wanted i)
  pub closed : (i c : ℕ) → i < length wanted → c < length (uses_of g (slice_index wanted i)) →
      IsSome (reference_of table (slice_index (uses_of g (slice_index wanted i)) c))
      ⊎ IsBehind wanted (i + 1) (slice_index (uses_of g (slice_index wanted i)) c)

-- each of these steps has a reference, or is wanted
pub record AreReached {X : Type 0} (table : List (Option X)) (wanted steps : List ℕ) : Type 0 where
  pub each : (k : ℕ) → k < length steps → IsSome (reference_of table (slice_index steps k))
      ⊎ IsBehind wanted 0 (slice_index steps k)

-- these are steps of the pair
pub record AreWithin (g : StepsOf) (steps : List ℕ) : Type 0 where
  pub each : (k : ℕ) → k < length steps → slice_index steps k < steps_in g.pair

-- each of these steps is used until a moment, or later
pub record AreUsedUntil (last steps : List ℕ) (at : ℕ) : Type 0 where
  pub each : (k : ℕ) → k < length steps → at ≤ slice_index last (slice_index steps k)

-- whether a step stands in a list of open ones
unfoldable pub IsOpen : List ℕ → ℕ → Type 0
IsOpen steps x = list_any (nat_eq x) steps ≡ true

-- those of the first n steps that have no reference were opened, and no other
pub record AreOpened {X : Type 0} (table : List (Option X)) (steps old new : List ℕ) (n : ℕ) : Type
    0 where
  pub kept : (x : ℕ) → IsOpen old x → IsOpen new x
  pub there : (k : ℕ) → k < n → IsSome (reference_of table (slice_index steps k))
      ⊎ IsOpen new (slice_index steps k)
  pub only : (x : ℕ) → IsOpen new x → IsOpen old x ⊎ ((k : ℕ) × (k < n) × (slice_index steps k ≡ x))

-- a moment was noted for those of the first n steps that had none, which is 0, and they were opened
pub record AreNoted (steps : List ℕ) (at : ℕ) (old : ℕ → ℕ) (old_steps : List ℕ) (new : ℕ
    → ℕ) (new_steps : List ℕ) (n : ℕ) : Type 0 where
  pub stays : (s : ℕ) → 0 < old s → new s ≡ old s
  pub there : (k : ℕ) → k < n → 0 < new (slice_index steps k)
  pub fresh : (s : ℕ) → old s ≡ 0 → 0 < new s → (new s ≡ at) × IsOpen new_steps s
  pub still : (x : ℕ) → IsOpen old_steps x → IsOpen new_steps x
  pub only : (x : ℕ) → IsOpen new_steps x → IsOpen old_steps x
      ⊎ ((k : ℕ) × (k < n) × (slice_index steps k ≡ x))

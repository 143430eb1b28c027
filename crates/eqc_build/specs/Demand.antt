-- What steps are needed for, and whether that is done.
use Rattle.std.specs.Prelude.{◌≡◌, ℕ, zero, suc, ◌+◌, ◌<◌, ◌≤◌, Bool, List, length, ltb, nat_eq}
use Rattle.std.specs.Prelude.{slice_index, slice_index_or, sum_by, if◌then◌else◌}
use Rattle.eqc_build.specs.Steps.{StepsOf, uses_of}
use Rattle.eqc_build.specs.declared.demand.Demand.{Demand}
use Rattle.eqc_build.specs.declared.plan.Plan.{Plan}

abbrev pub one_if : Bool → ℕ
one_if b = if b then 1 else 0

-- how often a step stands in a list
abbrev pub occurrences : ℕ → List ℕ → ℕ
occurrences s steps = sum_by (λ x. one_if (nat_eq s x)) steps

-- how often a step is used where these are made
abbrev pub uses_by : StepsOf → List ℕ → ℕ → ℕ
uses_by g made s = sum_by (λ k. occurrences s (uses_of g k)) made

-- how often a step is used by those of the first n that an output needs: they have a last moment at
-- which they are used
abbrev pub needed_uses : StepsOf → List ℕ → ℕ → ℕ → ℕ
needed_uses g last s zero = 0
needed_uses g last s (suc k) = needed_uses g last s k
    + (if ltb 0 (slice_index last k) then occurrences s (uses_of g k) else 0)

-- a count goes up by n, or stays at the highest number of 32 bits
pub record IsCounted (old new n : ℕ) : Type 0 where
  pub most : new ≤ old + n
  pub exact : new < 4294967295 → new ≡ old + n

-- what stands in a list is counted, where there is a place for it
pub record AreAdded (old new steps : List ℕ) : Type 0 where
  pub size : length new ≡ length old
  pub grown : (s : ℕ) → slice_index old s ≤ slice_index new s
  pub counted : (s : ℕ) → s < length old → IsCounted (slice_index old s) (slice_index new s)
      (occurrences s steps)

-- steps were made, each once, and what they use is counted, where there is a place for it
pub record AreCounted (g : StepsOf) (made old new : List ℕ) : Type 0 where
  pub size : length new ≡ length old
  pub grown : (s : ℕ) → slice_index old s ≤ slice_index new s
  pub once : (i j : ℕ) → i < j → j < length made → slice_index made i < slice_index made j
  pub counted : (s : ℕ) → s < length old → IsCounted (slice_index old s) (slice_index new s)
      (uses_by g made s)

-- it is known how often a step is used, it was used as often, and it is no root later than a moment
pub record IsMet (demand : Demand) (used : List ℕ) (s at : ℕ) : Type 0 where
  pub known : slice_index_or demand.uses.items s 4294967295 < 4294967295
  pub counted : slice_index_or demand.uses.items s 4294967295 ≤ slice_index used s
  pub root : slice_index demand.roots.items s ≤ at

-- a step is of use after a moment: an output needs it later, for a step that wasn't made, or as its
-- root
pub record IsOfUse (plan : Plan) (used : List ℕ) (s at : ℕ) : Type 0 where
  pub later : at < slice_index plan.last s
  pub unmet : IsMet plan.demand used s at → ⊥

-- The search for the least assignment, and one step of it: values for some variables, and what is
-- left of a function.
use Rattle.std.specs.Prelude.{◌≡◌, ℕ, ◌+◌, ◌*◌, ◌<◌, ◌≤◌, Bool, true, false, not, ◌&&◌, List, []}
use Rattle.std.specs.Prelude.{◌∷◌, length, replicate, ◌==◌, Some, if◌then◌else◌}
use Rattle.std.specs.List.{All, find, list_any}
use Rattle.eqc_tree.specs.Holding.{Entry, Holding, IsHeld, copies, weight, says}
use Rattle.eqc_tree.specs.Assigned.{assigned, AreDistinct, DependsOnlyOn, IsSatisfiable}
use Rattle.eqc_tree.specs.Assigned.{assignments}

-- a function that is held has a least assignment of these variables: it is true under some, and
-- depends on no others
pub record HasLeast (d : Holding) (variables : List ℕ) (f : Entry) : Type 0 where
  pub held : IsHeld d f
  pub within : All (λ v. v < d.variables) variables
  pub distinct : AreDistinct variables
  pub satisfiable : IsSatisfiable (says f)
  pub depends : DependsOnlyOn variables (says f)

-- these values are its least assignment
abbrev pub IsLeastOf : List ℕ → ((ℕ → Bool) → Bool) → List Bool → Type 0
IsLeastOf variables f least = Some least ≡ find (λ values. f (assigned variables values))
    (assignments (length variables))

-- one reference in place of another
pub record Replaces (old new : Holding) (gone come : Entry) : Type 0 where
  pub variables : new.variables ≡ old.variables
  pub held : (e : Entry) → copies new e + weight gone e ≡ copies old e + weight come e

-- where the function is satisfiable with all of these variables false, it is narrowed to that;
-- where nothing is left with
-- them false, nothing has to be narrowed
abbrev pub IsNarrowed : Bool → List ℕ → (rest left : (ℕ → Bool) → Bool) → Type 0
IsNarrowed true vs rest left = ((a : ℕ → Bool) → left a ≡ (rest a && not (list_any a vs)))
    × IsSatisfiable left
IsNarrowed false vs rest left = ((a : ℕ → Bool) → left a ≡ rest a)
    × ((a : ℕ → Bool) → (rest a && not (list_any a vs)) ≡ false)

-- the values that the try of a block of this length decides: all false, or of one position true, or
-- none
abbrev pub decided : Bool → ℕ → List Bool
decided true n = replicate n false
decided false n = if n == 1 then true ∷ [] else []

-- the next block is at most twice as long, and shorter where nothing was decided
pub record IsNextLength (narrows : Bool) (n next : ℕ) : Type 0 where
  pub some : 0 < next
  pub most : next ≤ 2 * n
  pub less : decided narrows n ≡ [] → next < n

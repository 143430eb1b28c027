-- Assignments of positions: as values of variables, where each position has its variable, and all
-- of them in order.
use Rattle.std.specs.Prelude.{◌≡◌, ℕ, zero, suc, ◌<◌, Bool, true, false, List, [], ◌∷◌, ◌++◌}
use Rattle.std.specs.Prelude.{length, map, nat_eq, slice_index, slice_index_or}
use Rattle.std.specs.List.{position_or_len}

-- the value of a variable: the one at its position, and false where it has none
unfoldable pub assigned : List ℕ → List Bool → ℕ → Bool
assigned variables values v = slice_index_or values (position_or_len (λ w. nat_eq w v) variables)
    false

-- all lists of n values in lexicographic order, false before true
unfoldable pub assignments : ℕ → List (List Bool)
assignments zero = [] ∷ []
assignments (suc n) = map (λ a. false ∷ a) (assignments n) ++ map (λ a. true ∷ a) (assignments n)

-- no variable stands twice
abbrev pub AreDistinct : List ℕ → Type 0
AreDistinct variables =
    (i j : ℕ) → i < length variables → j < length variables → slice_index variables i
    ≡ slice_index variables j → i ≡ j

-- two assignments that agree on these variables have one value
abbrev pub DependsOnlyOn : List ℕ → ((ℕ → Bool) → Bool) → Type 0
DependsOnlyOn variables f =
    (a b : ℕ → Bool) → ((i : ℕ) → i < length variables → a (slice_index variables i)
    ≡ b (slice_index variables i)) → f a ≡ f b

-- some assignment makes it true: it is not false for all of them
abbrev pub IsSatisfiable : ((ℕ → Bool) → Bool) → Type 0
IsSatisfiable f = ((a : ℕ → Bool) → f a ≡ false) → ⊥

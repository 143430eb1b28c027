-- Lists of names in which a name may stand twice. Names are compared byte for byte.
use Rattle.std.specs.Prelude.{◌≡◌, ℕ, ◌<◌, Bool, false, ◌||◌, List, [], ◌∷◌, length, slice_index_or}
use Rattle.std.specs.List.{list_any}
use Rattle.std.specs.Str.{bytes_eq}

-- whether a name is in the list
abbrev pub is_named : List (List ℕ) → List ℕ → Bool
is_named names name = list_any (λ other. bytes_eq name other) names

-- whether some name stands twice in the list
abbrev pub has_twice : List (List ℕ) → Bool
has_twice [] = false
has_twice (name ∷ names) = is_named names name || has_twice names

-- a name stands at two places of a list
abbrev pub StandsTwice : List (List ℕ) → List ℕ → Type 0
StandsTwice names name = (j : ℕ) × (k : ℕ) × (j < k) × (k < length names)
    × (slice_index_or names j [] ≡ name) × (slice_index_or names k [] ≡ name)

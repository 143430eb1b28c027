-- Values in a list.
use Rattle.std.specs.Prelude.{ℕ, Bool, false, List, slice_index_or}

-- a list of values as the value of each number
abbrev pub values_of : List Bool → ℕ → Bool
values_of values s = slice_index_or values s false

-- Sets of names, in the order in which the names were put in.
use Rattle.std.specs.Prelude.{ℕ, List, [], ◌∷◌, ◌++◌, if◌then◌else◌}
use Rattle.std.specs.List.{position_or_len}
use Rattle.std.specs.Str.{bytes_eq}
use Rattle.eqc_netlist.specs.Names.{is_named}

-- the names with one more, unless it is there
abbrev pub with_name : List (List ℕ) → List ℕ → List (List ℕ)
with_name names name = if is_named names name then names else names ++ name ∷ []

-- where a name first stands among others, or their number where it doesn't
abbrev pub place_in : List (List ℕ) → List ℕ → ℕ
place_in names name = position_or_len (λ other. bytes_eq name other) names

-- The columns of covers, as places among the names of their model.
use Rattle.std.specs.Prelude.{ℕ, List, map}
use Rattle.std.specs.List.{flat_map}
use Rattle.eqc_blif.specs.Netlist.{ModelOf, CoverOf}
use Rattle.eqc_hierarchy.specs.Signals.{names_of}
use Rattle.eqc_netlist.specs.NameSets.{place_in}

-- the places of some columns, those of covers, those of a model's covers, and those of all covers
-- of a library
abbrev pub places_in : List (List ℕ) → List (List ℕ) → List ℕ
places_in names columns = map (place_in names) columns

abbrev pub columns_in : List (List ℕ) → List CoverOf → List (List ℕ)
columns_in names covers = map (λ (c : CoverOf). places_in names c.columns) covers

abbrev pub columns_of : ModelOf → List (List ℕ)
columns_of m = columns_in (names_of m) m.covers

abbrev pub all_columns : List ModelOf → List (List ℕ)
all_columns library = flat_map columns_of library

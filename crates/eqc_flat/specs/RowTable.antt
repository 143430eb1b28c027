-- For the proofs alone: the rows of all covers of a library, numbered model by model.
use Rattle.std.specs.Prelude.{◌≡◌, ℕ, ◌<◌, List, length, map, take}
use Rattle.std.specs.List.{flat_map, range_with_len}
use Rattle.eqc_blif.specs.Netlist.{ModelOf, CoverOf}

-- the rows of the covers of a model
abbrev pub rows_of : ModelOf → List (List (List ℕ))
rows_of m = map (λ (c : CoverOf). c.rows) m.covers

-- the rows of all covers of a library, model by model
abbrev pub all_rows : List ModelOf → List (List (List ℕ))
all_rows library = flat_map rows_of library

-- a table of the rows of all covers, with the number of the first of each model
pub record IsRowTable (library : List ModelOf) (firsts : List ℕ) (rows : List (List (List ℕ))) :
    Type 0 where
  pub firsts_of : firsts ≡ map (λ m. length (flat_map rows_of (take m library)))
      (range_with_len 0 (length library))
  pub rows_are : rows ≡ all_rows library
  pub few : length rows < 4294967296

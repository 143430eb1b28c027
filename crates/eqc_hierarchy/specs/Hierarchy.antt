-- The hierarchy below a main model: an instance is a path of positions of `.subckt` from the main
-- model, the
-- innermost first, so that the path of an instance's parent is its tail.
use Rattle.std.specs.Prelude.{ℕ, zero, suc, List, [], ◌∷◌, length, map, slice_index_or}
use Rattle.std.specs.List.{flat_map, position_or_len, range_with_len}
use Rattle.std.specs.Str.{bytes_eq}
use Rattle.eqc_blif.specs.Netlist.{ModelOf, InstanceOf, no_model}

-- the model of a number
abbrev pub model : List ModelOf → ℕ → ModelOf
model library m = slice_index_or library m no_model

-- the number of the first model of a name, or the number of models where none has it
abbrev pub model_number : List ModelOf → List ℕ → ℕ
model_number library name = position_or_len (λ (m : ModelOf). bytes_eq name m.name) library

-- the models of the instances in a model, in order
unfoldable pub callees : List ModelOf → ℕ → List ℕ
callees library m = map (λ (i : InstanceOf). model_number library i.model)
    (model library m).instances

-- the models that the main model reaches by at most so many instances below one another
unfoldable pub reached_within : List ModelOf → ℕ → ℕ → List ℕ
reached_within library top zero = top ∷ []
reached_within library top (suc n) = top ∷ flat_map (callees library) (reached_within library top n)

-- the models that the main model reaches, itself among them
abbrev pub reached : List ModelOf → ℕ → List ℕ
reached library top = reached_within library top (length library)

-- the model of an instance
unfoldable pub model_at : List ModelOf → ℕ → List ℕ → ℕ
model_at library top [] = top
model_at library top (position ∷ up) = slice_index_or (callees library (model_at library top up))
    position (length library)

-- the instances right below an instance
abbrev pub below : List ModelOf → ℕ → List ℕ → List (List ℕ)
below library top path =
    map (λ position. position ∷ path)
    (range_with_len 0 (length (callees library (model_at library top path))))

-- the main model and the instances by at most so many positions, those of fewer positions first
unfoldable pub paths_within : List ModelOf → ℕ → ℕ → List (List ℕ)
paths_within library top zero = [] ∷ []
paths_within library top (suc n) = [] ∷ flat_map (below library top) (paths_within library top n)

-- the main model and all instances; without recursion no path is longer than there are models
abbrev pub paths : List ModelOf → ℕ → List (List ℕ)
paths library top = paths_within library top (length library)

-- For the proofs alone: the calls of a library, and the list of the models that a main model
-- reaches while it grows.
use Rattle.std.specs.Prelude.{◌≡◌, ℕ, ◌+◌, ◌<◌, ◌≤◌, Bool, true, false, not, List, [], length, map}
use Rattle.std.specs.Prelude.{slice_index_or}
use Rattle.std.specs.List.{list_all, list_any, count_by, range_with_len}
use Rattle.eqc_blif.specs.Netlist.{ModelOf, InstanceOf}
use Rattle.eqc_netlist.specs.Dependency.{among}
use Rattle.eqc_hierarchy.specs.Hierarchy.{model, callees, reached_within}

-- the callees of each model, and last those of the number of models, which stands for a model that
-- isn't there
abbrev pub calls_of : List ModelOf → List (List ℕ)
calls_of library = map (callees library) (range_with_len 0 (length library + 1))

-- whether some instance in some of these models passes a test
abbrev pub some_instance_in : List ModelOf → List ℕ → (InstanceOf → Bool) → Bool
some_instance_in library models test = list_any (λ m. list_any test (model library m).instances)
    models

-- what stands for an instance where there is none
abbrev pub no_instance : InstanceOf
no_instance = record { model = []; pairs = [] }

-- a model among these, and the position of an instance in it that passes a test
abbrev pub IsPlaceIn : List ModelOf → List ℕ → (InstanceOf → Bool) → ℕ × ℕ → Type 0
IsPlaceIn library models test place =
    (among models place.0 ≡ true) × (place.1 < length (model library place.0).instances)
    × (test (slice_index_or (model library place.0).instances place.1 no_instance) ≡ true)

-- the list of the models reached so far, the first k of which were looked at, and which of n
-- numbers are in it
pub record IsReaching (library : List ModelOf) (top n : ℕ) (seen : List Bool) (all : List ℕ)
    (k : ℕ) : Type 0 where
  pub size : length seen ≡ n
  pub counted : length all + count_by not seen ≡ n
  pub same : (m : ℕ) → among all m ≡ slice_index_or seen m false
  pub begun : among all top ≡ true
  pub origin : (i : ℕ) → i < length all
      → among (reached_within library top i) (slice_index_or all i 0) ≡ true
  pub within : k ≤ length all
  pub closed : (i : ℕ) → i < k → list_all (among all) (callees library (slice_index_or all i 0))
      ≡ true

-- the same in the midst of looking at model m at place k, the first j of whose callees were looked
-- at
pub record IsAdding (library : List ModelOf) (top n : ℕ) (seen : List Bool) (all : List ℕ) (k m : ℕ)
    (done : List ℕ) : Type 0 where
  pub reaching : IsReaching library top n seen all k
  pub inside : k < length all
  pub here : slice_index_or all k 0 ≡ m
  pub added : list_all (among all) done ≡ true

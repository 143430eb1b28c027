-- How large the hierarchy below a model is, counted model by model.
use Rattle.std.specs.Prelude.{◌≡◌, ℕ, zero, suc, ◌+◌, ◌≤◌, true, List, [], length, nat_lt, ◌<◌}
use Rattle.std.specs.Prelude.{Option, Some, None}
use Rattle.std.specs.List.{list_all, sum_by}
use Rattle.eqc_blif.specs.Netlist.{ModelOf}
use Rattle.eqc_netlist.specs.Dependency.{in_order}
use Rattle.eqc_hierarchy.specs.Hierarchy.{model, callees}
use Rattle.eqc_hierarchy.specs.Signals.{names_of}

-- the signals and instances below a model, which is no instance itself, by at most so many
-- instances below one another
unfoldable pub size_within : List ModelOf → ℕ → ℕ → ℕ
size_within library zero m = length (names_of (model library m))
size_within library (suc n) m = length (names_of (model library m))
    + sum_by (λ c. size_within library n c + 1) (callees library m)

-- the signals and instances below a model that never reaches itself
abbrev pub model_size : List ModelOf → ℕ → ℕ
model_size library m = size_within library (length library) m

-- models of a library, each after the models of its instances
pub record IsCallOrder (library : List ModelOf) (order : List ℕ) : Type 0 where
  pub sorted : in_order (callees library) [] order ≡ true
  pub within : list_all (λ m. nat_lt m (length library + 1)) order ≡ true
  pub few : length order ≤ length library + 1

-- a number that is told, or isn't told since it is over 2^64 - 1
abbrev pub IsTold : Option ℕ → ℕ → Type 0
IsTold None number = 18446744073709551615 < number
IsTold (Some told) number = told ≡ number

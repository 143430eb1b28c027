-- For the proofs alone: what is known on the way to a flat netlist, and the netlist put together
-- from its parts.
use Rattle.std.specs.Prelude.{ℕ, List, ◌≡◌, ◌⊎◌, ◌≤◌, false, length, Some}
use Rattle.eqc_blif.specs.Netlist.{ModelOf}
use Rattle.eqc_netlist.specs.Graph.{DriverOf, FlatOf}
use Rattle.eqc_hierarchy.specs.Hierarchy.{model}
use Rattle.eqc_flat.specs.RowTable.{all_rows}
use Rattle.eqc_hierarchy.specs.Codes.{is_too_large, code_of_drivers, flat_code}
use Rattle.eqc_hierarchy.specs.ModelFaults.{HasNoModelFault}

abbrev pub put_together : List ModelOf → ℕ → List ℕ → List (ℕ × List ℕ) → List (ℕ × ℕ)
    → List DriverOf → List ℕ → FlatOf
put_together library top output_signals signals places drivers steps = record {
  inputs = (model library top).inputs;
  outputs = (model library top).outputs;
  output_signals = output_signals;
  signals = signals;
  places = places;
  drivers = drivers;
  rows = all_rows library;
  steps = steps;
}

-- whether its signals can be numbered and their drivers told: nor is the hierarchy too large, or
-- has more inputs than there is
-- room for
pub record IsNumberable (library : List ModelOf) (top : ℕ) : Type 0 where
  pub models : HasNoModelFault library top
  pub small : is_too_large library top ≡ false
  pub few : length (model library top).inputs ≤ 65535

-- memory was refused, or the hierarchy is refused by a code, where the main model may have as many
-- inputs as the limit
abbrev pub IsFlatFault : List ModelOf → ℕ → ℕ → ℕ → Type 0
IsFlatFault library top limit code = (code ≡ 72) ⊎ (flat_code library top limit ≡ Some code)

-- the same, whatever the limit
abbrev pub IsFaultAnyway : List ModelOf → ℕ → ℕ → Type 0
IsFaultAnyway library top code = (code ≡ 72) ⊎ ((limit : ℕ) → flat_code library top limit
    ≡ Some code)

-- the same for what drives the signals, where no other code applies
abbrev pub IsDriversFault : List ModelOf → ℕ → ℕ → Type 0
IsDriversFault library top code = (code ≡ 72) ⊎ (code_of_drivers library top ≡ Some code)

-- What makes the value of a step.
use Rattle.std.specs.Prelude.{◌≡◌, ℕ, ◌<◌, ◌≤◌, Bool, List, [], ◌∷◌, length, map, slice_index}
use Rattle.std.specs.Prelude.{slice_index_or}
use Rattle.eqc_netlist.specs.Cover.{cover_value}
use Rattle.std.specs.Option.{IfSome}
use Rattle.eqc_cover.specs.Splits.{IsExpansionOf}
use Rattle.eqc_cover.specs.Table.{Tabulates, table_value}
use Rattle.eqc_netlist.specs.Graph.{FlatOf, input, tie, cover, driver_at}
use Rattle.eqc_build.specs.Steps.{StepsOf, step_in, uses_of, value_at}
use Rattle.eqc_build.specs.declared.steps.StepDriver.{StepDriver}
use Rattle.eqc_build.specs.declared.steps.StepDriver.TheVariants.{Variable, Copy, Cover, Table}

-- the driver of a netlist's own step k, where its inputs have these variables and its steps begin
-- at `start`
abbrev pub IsDriverIn : FlatOf → List ℕ → List ℕ → List ℕ → ℕ → ℕ → StepDriver → Type 0
IsDriverIn f variables chosen places start k (Variable v) =
    (position : ℕ) × (driver_at f (slice_index f.steps k) ≡ input position)
    × (v ≡ slice_index variables position)
IsDriverIn f variables chosen places start k (Copy other) =
    (t : ℕ) × (driver_at f (slice_index f.steps k) ≡ tie t)
    × (other ≡ step_in chosen places start t)
IsDriverIn f variables chosen places start k (Cover columns rows known) =
    (signals : List ℕ) × (r : ℕ) × (driver_at f (slice_index f.steps k) ≡ cover signals r)
    × (columns ≡ map (step_in chosen places start) signals)
    × (rows.now ≡ slice_index_or f.rows r [])
    × IfSome known (λ e. IsExpansionOf rows.now (length columns) e.now)
IsDriverIn f variables chosen places start k (Table columns table) =
    (signals : List ℕ) × (r : ℕ) × (driver_at f (slice_index f.steps k) ≡ cover signals r)
    × (columns ≡ map (step_in chosen places start) signals) × (length signals ≤ 6)
    × Tabulates table (length signals) (cover_value (slice_index_or f.rows r []))

-- a step's value is that of a variable, that of the one step that it uses, or that of rows or of a
-- table over the steps that it uses
abbrev pub IsMadeBy : StepsOf → ℕ → StepDriver → Type 0
IsMadeBy g k (Variable v) = (v < length g.pair.first.inputs)
    × ((a : ℕ → Bool) → a v ≡ value_at g.pair a k)
IsMadeBy g k (Copy other) = (uses_of g k ≡ other ∷ []) × ((a : ℕ → Bool) → value_at g.pair a other
    ≡ value_at g.pair a k)
IsMadeBy g k (Cover columns rows known) =
    (uses_of g k ≡ columns) × ((a : ℕ → Bool)
    → cover_value rows.now (map (value_at g.pair a) columns) ≡ value_at g.pair a k)
    × IfSome known (λ e. IsExpansionOf rows.now (length columns) e.now)
IsMadeBy g k (Table columns table) = (uses_of g k ≡ columns) × (length columns ≤ 6)
    × ((a : ℕ → Bool) → table_value table (map (value_at g.pair a) columns) ≡ value_at g.pair a k)

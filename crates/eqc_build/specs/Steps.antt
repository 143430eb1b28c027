-- The steps of a pair, in one row: those of the first netlist, those of the second, and those of
-- the assumption, if there is
-- one. Each makes the value of a signal out of those of steps before it. A step may be chosen in
-- place of one that never has
-- another value.
use Rattle.std.specs.Prelude.{◌≡◌, ℕ, ◌+◌, ◌-◌, ◌<◌, ◌≤◌, Bool, List, [], ◌∷◌, ◌++◌, length, map}
use Rattle.std.specs.Prelude.{ltb, Option, slice_index, slice_index_or, if◌then◌else◌}
use Rattle.std.specs.Option.{IfSome, option_map_or}
use Rattle.eqc_netlist.specs.Graph.{FlatOf, IsFlat, FollowsDrivers, driver_at, dependencies}
use Rattle.eqc_netlist.specs.Graph.{value_of}
use Rattle.eqc_pair.specs.PairOf.{PairOf, IsPair, ArePlaces, assumed, first_variables}
use Rattle.eqc_pair.specs.PairOf.{second_variables, assumed_variables, second_signals}
use Rattle.eqc_build.specs.CoverTables.{TablesOf, AreTablesOf, ArePairTables}
use Rattle.eqc_build.specs.declared.cover_tables.CoverTable.{CoverTable}

-- the values of the inputs, where an input at a position has the value of its variable
abbrev pub inputs_under : List ℕ → (ℕ → Bool) → ℕ → Bool
inputs_under variables a p = a (slice_index variables p)

-- where the steps of the assumption begin
abbrev pub assumed_start : PairOf → ℕ
assumed_start p = length p.first.drivers + length p.second.drivers

-- how many steps a pair has
abbrev pub steps_in : PairOf → ℕ
steps_in p = assumed_start p + length (assumed p).drivers

-- the value that a step makes, under values of the variables
unfoldable pub value_at : PairOf → (ℕ → Bool) → ℕ → Bool
value_at p a k =
    if ltb k (length p.first.drivers)
    then value_of p.first (inputs_under (first_variables p) a) (slice_index p.first.steps k)
    else if ltb k (assumed_start p)
    then value_of p.second (inputs_under (second_variables p) a) (slice_index p.second.steps
    (k - length p.first.drivers))
    else value_of (assumed p) (inputs_under (assumed_variables p) a) (slice_index (assumed p).steps
    (k - assumed_start p))

-- a pair, the step of each signal of its netlists, counted in each from 0, the step that is chosen
-- in place of each,
-- itself where none is listed, tables of some of its covers, and the netlists whose covers are kept
-- as splits
pub record StepsOf : Type 0 where
  pub pair : PairOf
  pub places : List ℕ
  pub others : List ℕ
  pub further : List ℕ
  pub chosen : List ℕ
  pub tables : TablesOf
  pub wide : FlatOf × FlatOf

abbrev pub chosen_for : List ℕ → ℕ → ℕ
chosen_for chosen k = slice_index_or chosen k k

-- the step of a signal of a netlist whose steps begin at `start`
unfoldable pub step_in : List ℕ → List ℕ → ℕ → ℕ → ℕ
step_in chosen places start s = chosen_for chosen (start + slice_index places s)

-- what the step of such a netlist uses that is number k of its own
abbrev pub uses_in : FlatOf → List ℕ → List ℕ → ℕ → ℕ → List ℕ
uses_in f chosen places start k =
    map (step_in chosen places start) (dependencies (driver_at f (slice_index f.steps k)))

-- the steps that a step uses
unfoldable pub uses_of : StepsOf → ℕ → List ℕ
uses_of g k =
    if ltb k (length g.pair.first.drivers)
    then uses_in g.pair.first g.chosen g.places 0 k
    else if ltb k (assumed_start g.pair)
    then uses_in g.pair.second g.chosen g.others (length g.pair.first.drivers)
    (k - length g.pair.first.drivers)
    else uses_in (assumed g.pair) g.chosen g.further (assumed_start g.pair)
    (k - assumed_start g.pair)

-- the steps of an output's two signals
abbrev pub first_root : StepsOf → ℕ → ℕ
first_root g output = step_in g.chosen g.places 0 (slice_index g.pair.first.output_signals output)

abbrev pub second_root : StepsOf → ℕ → ℕ
second_root g output = step_in g.chosen g.others (length g.pair.first.drivers)
    (slice_index (second_signals g.pair) output)

unfoldable pub roots_of : StepsOf → ℕ → List ℕ
roots_of g output = first_root g output ∷ second_root g output ∷ []

-- the step of the assumption's one output, if there is an assumption
unfoldable pub assumed_root : StepsOf → List ℕ
assumed_root g = option_map_or (λ h. step_in g.chosen g.further (assumed_start g.pair)
    (slice_index h.output_signals 0) ∷ []) g.pair.assumes []

-- the steps whose diagrams a comparison of an output needs
abbrev pub goals_of : StepsOf → ℕ → List ℕ
goals_of g output = roots_of g output ++ assumed_root g

-- in place of each step an earlier one is chosen, or itself, which has its value under all values
-- of the variables
pub record IsChoice (p : PairOf) (chosen : List ℕ) : Type 0 where
  pub early : (k : ℕ) → k < steps_in p → chosen_for chosen k ≤ k
  pub same : (k : ℕ) (a : ℕ → Bool) → k < steps_in p → value_at p a (chosen_for chosen k)
      ≡ value_at p a k

-- what holds of the steps of every pair
pub record AreSteps (g : StepsOf) : Type 0 where
  pub lawful : IsPair g.pair
  pub first_follows : FollowsDrivers g.pair.first
  pub second_follows : FollowsDrivers g.pair.second
  pub assumed_follows : FollowsDrivers (assumed g.pair)
  pub places : ArePlaces g.pair.first g.places
  pub others : ArePlaces g.pair.second g.others
  pub further : ArePlaces (assumed g.pair) g.further
  pub choice : IsChoice g.pair g.chosen
  pub tables : ArePairTables g.pair g.tables
  pub wide_first : g.wide.0 ≡ g.pair.first
  pub wide_second : g.wide.1 ≡ g.pair.second

-- a step is number k of a netlist's own steps, which begin at `start` and whose inputs have these
-- variables; and the steps
-- for the netlist's signals have their values, these are tables of its covers, and if covers are
-- kept as splits they are its own
pub record IsSide (g : StepsOf) (f : FlatOf) (wide : Option FlatOf) (tables : List (ℕ × CoverTable))
    (variables places : List ℕ) (start k step : ℕ) : Type 0 where
  pub lawful : IsFlat f
  pub follows : FollowsDrivers f
  pub places_are : ArePlaces f places
  pub tables_are : AreTablesOf f tables
  pub wide_is : IfSome wide (λ h. h ≡ f)
  pub begins : start ≤ 2097152
  pub inside : k < length f.drivers
  pub size : length variables ≡ length f.inputs
  pub below : (position : ℕ) → position < length f.inputs → slice_index variables position
      < length g.pair.first.inputs
  pub uses : uses_of g step ≡ uses_in f g.chosen places start k
  pub value : (a : ℕ → Bool) → value_at g.pair a step ≡ value_of f (inputs_under variables a)
      (slice_index f.steps k)
  pub signal : (a : ℕ → Bool) (s : ℕ) → s < length f.drivers
      → value_at g.pair a (step_in g.chosen places start s) ≡ value_of f (inputs_under variables a)
      s

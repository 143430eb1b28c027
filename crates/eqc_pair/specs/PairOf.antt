-- Two netlists with the same inputs and outputs, matched by name, and an order of the inputs as
-- variables, with an
-- assumption on the inputs or none, and the outputs that are chosen; or why they make no pair.
use Rattle.std.specs.Prelude.{◌≡◌, ℕ, ◌<◌, ◌≤◌, Bool, true, false, not, List, [], length, map}
use Rattle.std.specs.Prelude.{slice_index, slice_index_or, ◌==◌, Option, Some, None, IfSome}
use Rattle.std.specs.Prelude.{if◌then◌else◌}
use Rattle.std.specs.List.{position_or_len, range_with_len}
use Rattle.std.specs.Option.{option_map, option_map_or, option_or, option_and_then, unwrap_or}
use Rattle.eqc_netlist.specs.Graph.{FlatOf, IsFlat}
use Rattle.eqc_pair.specs.Matched.{position_of, has_all, same_names, AreLeftOut, order_words}
use Rattle.eqc_pair.specs.Matched.{order_code}
use Rattle.eqc_pair.specs.declared.refused.Refused.{Refused}
use Rattle.eqc_pair.specs.declared.refused.Side.TheVariants.{Pair, Order, Assume}

-- a pair: the order has for each variable the position of its input among those of the first
-- netlist. Only assignments
-- count under which the assumption's output is 1; without an assumption all do. Only outputs that
-- are chosen by their names
-- are compared; without a name all are
pub record PairOf : Type 0 where
  pub first : FlatOf
  pub second : FlatOf
  pub order : List ℕ
  pub assumes : Option FlatOf
  pub chosen : List (List ℕ)

-- a netlist without inputs, outputs and signals
abbrev pub no_netlist : FlatOf
no_netlist = record {
  inputs = [];
  outputs = [];
  output_signals = [];
  signals = [];
  places = [];
  drivers = [];
  rows = [];
  steps = [];
}

-- the assumption's netlist, one without signals where there is no assumption
abbrev pub assumed : PairOf → FlatOf
assumed p = unwrap_or p.assumes no_netlist

-- an assumption over these inputs: its own are among them, and it has one output
pub record IsAssumption (inputs : List (List ℕ)) (h : FlatOf) : Type 0 where
  pub flat : IsFlat h
  pub known_inputs : has_all inputs h.inputs ≡ true
  pub one_output : length h.outputs ≡ 1

-- the variable of a position in an order
abbrev pub variable_in : List ℕ → ℕ → ℕ
variable_in order position = position_or_len (λ other. position == other) order

-- an order of n positions has each of them once: positions and variables are inverse to each other
pub record IsOrder (n : ℕ) (order : List ℕ) : Type 0 where
  pub count : length order ≡ n
  pub position_within : (v : ℕ) → v < n → slice_index_or order v 0 < n
  pub variable_within : (i : ℕ) → i < n → variable_in order i < n
  pub at_variable : (i : ℕ) → i < n → slice_index_or order (variable_in order i) 0 ≡ i
  pub at_position : (v : ℕ) → v < n → variable_in order (slice_index_or order v 0) ≡ v

-- the variables of all positions
abbrev pub variables_in : ℕ → List ℕ → List ℕ
variables_in n order = map (variable_in order) (range_with_len 0 n)

-- the variable of the input at a position of the first netlist
abbrev pub variable_of : PairOf → ℕ → ℕ
variable_of p position = variable_in p.order position

-- values of the first netlist's inputs as an assignment of variables: each variable has its input's
-- value
abbrev pub input_values : PairOf → List Bool → ℕ → Bool
input_values p values v = slice_index_or values (slice_index_or p.order v 0) false

-- the variables of the first netlist's inputs, and of the second's
unfoldable pub first_variables : PairOf → List ℕ
first_variables p = variables_in (length p.first.inputs) p.order

unfoldable pub second_variables : PairOf → List ℕ
second_variables p = map (λ name. variable_of p (position_of p.first.inputs name)) p.second.inputs

-- the variables of the assumption's inputs
unfoldable pub assumed_variables : PairOf → List ℕ
assumed_variables p = map (λ name. variable_of p (position_of p.first.inputs name))
    (assumed p).inputs

-- the signal of the output of a name
abbrev pub output_signal : FlatOf → List ℕ → ℕ
output_signal f name = slice_index_or f.output_signals (position_of f.outputs name) 0

-- the second netlist's signal for each of the first one's outputs
unfoldable pub second_signals : PairOf → List ℕ
second_signals p = map (output_signal p.second) p.first.outputs

-- what holds of every pair
pub record IsPair (p : PairOf) : Type 0 where
  pub first_flat : IsFlat p.first
  pub second_flat : IsFlat p.second
  pub few_inputs : length p.first.inputs ≤ 65535
  pub same_inputs : same_names p.first.inputs p.second.inputs ≡ true
  pub same_outputs : same_names p.first.outputs p.second.outputs ≡ true
  pub ordered : IsOrder (length p.first.inputs) p.order
  pub assuming : IfSome p.assumes (IsAssumption p.first.inputs)

-- the step of each signal of a netlist, counted from 0
pub record ArePlaces (f : FlatOf) (places : List ℕ) : Type 0 where
  pub size : length places ≡ length f.drivers
  pub within : (s : ℕ) → s < length f.drivers → slice_index places s < length f.steps
  pub at : (s : ℕ) → s < length f.drivers → slice_index f.steps (slice_index places s) ≡ s

-- a pair with what its comparison reads
pub record IsLaidOut (p : PairOf) (variables seconds thirds signals places others further : List ℕ)
    (left_out : List Bool) : Type 0 where
  pub lawful : IsPair p
  pub variables_are : variables ≡ first_variables p
  pub seconds_are : seconds ≡ second_variables p
  pub thirds_are : thirds ≡ assumed_variables p
  pub signals_are : signals ≡ second_signals p
  pub first_steps : ArePlaces p.first places
  pub second_steps : ArePlaces p.second others
  pub assumed_steps : ArePlaces (assumed p) further
  pub left_out_are : AreLeftOut p.chosen p.first.outputs left_out

-- the order that a text gives; without a text the inputs as the first netlist declares them
abbrev pub order_for : List (List ℕ) → Option (List ℕ) → List ℕ
order_for inputs order = option_map_or (λ text. map (position_of inputs) (order_words text)) order
    (range_with_len 0 (length inputs))

-- the refusal of an order text
abbrev pub order_refused : ℕ → Refused
order_refused code = record { side = Order; line = 0; code = code }

abbrev pub order_refusal : List (List ℕ) → Option (List ℕ) → Option Refused
order_refusal inputs order =
    option_map_or (λ text. option_map order_refused (order_code inputs text)) order None

-- a refusal of two netlists
abbrev pub pair_refused : ℕ → Refused
pair_refused code = record { side = Pair; line = 0; code = code }

-- a refusal of an assumption
abbrev pub assumption_refused : ℕ → Refused
assumption_refused code = record { side = Assume; line = 0; code = code }

-- where the names of two netlists with the same ones stand: the second's inputs among those of the
-- first, and the
-- first's outputs among those of the second; and which of the first's outputs are not chosen by
-- these names
pub record AreMatched (f g : FlatOf) (names : List (List ℕ)) (inputs outputs : List ℕ)
    (left_out : List Bool) : Type 0 where
  pub same_inputs : same_names f.inputs g.inputs ≡ true
  pub same_outputs : same_names f.outputs g.outputs ≡ true
  pub inputs_are : inputs ≡ map (position_of f.inputs) g.inputs
  pub outputs_are : outputs ≡ map (position_of g.outputs) f.outputs
  pub named_outputs : has_all f.outputs names ≡ true
  pub left_out_are : AreLeftOut names f.outputs left_out

-- the refusal of two netlists with the names of chosen outputs and an order text: 41 where the sets
-- of input names differ,
-- 42 where those of output names do, 43 where a name is that of no output, or the code of the text
abbrev pub pair_refusal : FlatOf → FlatOf → List (List ℕ) → Option (List ℕ) → Option Refused
pair_refusal f g names order =
    if not (same_names f.inputs g.inputs) then Some (pair_refused 41)
    else if not (same_names f.outputs g.outputs) then Some (pair_refused 42)
    else if not (has_all f.outputs names) then Some (pair_refused 43)
    else order_refusal f.inputs order

-- the refusal of an assumption over these inputs: 61 where it has an input that is none of them, 62
-- where it hasn't exactly
-- one output
abbrev pub assumption_refusal : List (List ℕ) → FlatOf → Option Refused
assumption_refusal inputs h =
    if not (has_all inputs h.inputs) then Some (assumption_refused 61)
    else if not (length h.outputs == 1) then Some (assumption_refused 62)
    else None

-- the refusal of two netlists with an order text, and of an assumption, if there is one
abbrev pub assuming_refusal : FlatOf → FlatOf → Option (List ℕ) → Option FlatOf → Option Refused
assuming_refusal f g order h = option_or (pair_refusal f g [] order)
    (option_and_then (assumption_refusal f.inputs) h)

-- want of memory
abbrev pub no_memory : Refused
no_memory = pair_refused 72

-- Flat signals, what drives them, and their values: a flat signal is an instance with a name that
-- occurs in its
-- model as an input, an output, in a cover or as an actual.
use Rattle.std.specs.Prelude.{ℕ, zero, suc, Bool, false, ◌&&◌, not, List, [], ◌∷◌, ◌++◌, length}
use Rattle.std.specs.Prelude.{map, filter, Option, Some, None, slice_get, slice_index_or}
use Rattle.std.specs.Prelude.{if◌then◌else◌, unwrap_or}
use Rattle.std.specs.List.{flat_map, enumerate_from}
use Rattle.std.specs.Option.{option_map, option_and_then}
use Rattle.std.specs.Str.{bytes_eq}
use Rattle.eqc_blif.specs.Netlist.{ModelOf, InstanceOf, CoverOf}
use Rattle.eqc_netlist.specs.Names.{is_named}
use Rattle.eqc_netlist.specs.Cover.{cover_value}
use Rattle.eqc_hierarchy.specs.Hierarchy.{model, model_at, paths}

-- a flat signal: an instance by its path, and a name in its model
pub record SignalOf : Type 0 where
  pub path : List ℕ
  pub name : List ℕ

abbrev pub same_signal : SignalOf → SignalOf → Bool
same_signal s t = bytes_eq s.path t.path && bytes_eq s.name t.name

-- each name once, where it first stands
abbrev pub once_each : List (List ℕ) → List (List ℕ)
once_each [] = []
once_each (name ∷ names) = name ∷ filter (λ other. not (bytes_eq name other)) (once_each names)

-- the names in a model's covers, and the actuals of its instances
abbrev pub cover_names : CoverOf → List (List ℕ)
cover_names c = c.columns ++ c.output ∷ []

abbrev pub actuals : InstanceOf → List (List ℕ)
actuals i = map (λ pair. pair.1) i.pairs

-- the names that occur in a model, each once
unfoldable pub names_of : ModelOf → List (List ℕ)
names_of m = once_each (m.inputs ++ m.outputs ++ flat_map cover_names m.covers
    ++ flat_map actuals m.instances)

-- the flat signals of an instance
abbrev pub signals_at : List ModelOf → ℕ → List ℕ → List SignalOf
signals_at library top path = map (λ name. record { path = path; name = name })
    (names_of (model library (model_at library top path)))

-- all flat signals, instance by instance
unfoldable pub signals : List ModelOf → ℕ → List SignalOf
signals library top = flat_map (signals_at library top) (paths library top)

-- what drives a flat signal: an input of the main model, another signal, or a cover with its rows
pub data SourceOf : Type 0 where
  from_input : (position : ℕ) → SourceOf
  from_signal : (other : SignalOf) → SourceOf
  from_cover : (columns : List SignalOf) (rows : List (List ℕ)) → SourceOf

-- a signal with something that drives it
abbrev pub Driving : Type 0
Driving = SignalOf × SourceOf

-- each input of the main model drives the signal of its name
abbrev pub input_drivings : List (ℕ × List ℕ) → List Driving
input_drivings inputs = map (λ input. (record { path = []; name = input.1 }, from_input input.0))
    inputs

-- a cover drives its output
abbrev pub cover_driving : List ℕ → CoverOf → Driving
cover_driving path c = (
  record { path = path; name = c.output },
  from_cover (map (λ column. record { path = path; name = column }) c.columns) c.rows,
)

-- a formal that is an input of its model is driven by its actual; any other formal drives its
-- actual
abbrev pub pair_driving : List ℕ → ℕ → ModelOf → List ℕ × List ℕ → Driving
pair_driving path position callee pair =
    let formal : SignalOf = record { path = position ∷ path; name = pair.0 } in
    let actual : SignalOf = record { path = path; name = pair.1 } in
    if is_named callee.inputs pair.0 then (formal, from_signal actual) else (
      actual,
      from_signal formal,
    )

-- what the pairs of the instance at a position drive
abbrev pub instance_drivings : List ModelOf → ℕ → List ℕ → ℕ × InstanceOf → List Driving
instance_drivings library top path at =
    map (pair_driving path at.0 (model library (model_at library top (at.0 ∷ path)))) at.1.pairs

-- what the covers and pairs in an instance drive
abbrev pub drivings_at : List ModelOf → ℕ → List ℕ → List Driving
drivings_at library top path =
    let m : ModelOf = model library (model_at library top path) in
    map (cover_driving path) m.covers ++ flat_map (instance_drivings library top path)
    (enumerate_from 0 m.instances)

-- every driving of the hierarchy
unfoldable pub drivings : List ModelOf → ℕ → List Driving
drivings library top = input_drivings (enumerate_from 0 (model library top).inputs)
    ++ flat_map (drivings_at library top) (paths library top)

-- what drives a signal, among some drivings
abbrev pub sources_in : List Driving → SignalOf → List SourceOf
sources_in all s = map (λ (d : Driving). d.1) (filter (λ (d : Driving). same_signal d.0 s) all)

-- what drives a flat signal
abbrev pub sources : List ModelOf → ℕ → SignalOf → List SourceOf
sources library top s = sources_in (drivings library top) s

-- the signals that a source depends on: a cover on all its columns, whatever its rows
abbrev pub needs : SourceOf → List SignalOf
needs (from_input position) = []
needs (from_signal other) = other ∷ []
needs (from_cover columns rows) = columns

-- the values of all, where each has one
abbrev pub all_some : List (Option Bool) → Option (List Bool)
all_some [] = Some []
all_some (None ∷ values) = None
all_some (Some v ∷ values) = option_map (λ vs. v ∷ vs) (all_some values)

-- what a source makes of the values a of the inputs and of the values of the signals that it
-- depends on
abbrev pub made : (ℕ → Bool) → SourceOf → List Bool → Bool
made a (from_input position) vs = a position
made a (from_signal other) vs = slice_index_or vs 0 false
made a (from_cover columns rows) vs = cover_value rows vs

-- the value of a signal at a depth, by following what drives it: at depth 0 there is none
unfoldable pub value_at : List ModelOf → ℕ → (ℕ → Bool) → ℕ → SignalOf → Option Bool
value_at library top a zero s = None
value_at library top a (suc depth) s =
    option_and_then (λ source. option_map (made a source)
    (all_some (map (value_at library top a depth) (needs source))))
    (slice_get (sources library top s) 0)

-- the value of an output of the main model, at the depth of the number of flat signals
unfoldable pub output_value : List ModelOf → ℕ → (ℕ → Bool) → List ℕ → Bool
output_value library top a name = unwrap_or (value_at library top a (length (signals library top))
    (record { path = []; name = name })) false

-- The faults of the models that a main model reaches, told before any signal is numbered.
use Rattle.std.specs.Prelude.{◌≡◌, ℕ, ◌+◌, ◌==◌, Bool, false, not, List, ◌++◌, length, map}
use Rattle.std.specs.List.{list_any, range_with_len}
use Rattle.eqc_blif.specs.Netlist.{ModelOf, InstanceOf}
use Rattle.eqc_netlist.specs.Names.{is_named, has_twice}
use Rattle.eqc_hierarchy.specs.Hierarchy.{model, model_number}
use Rattle.eqc_hierarchy.specs.Signals.{once_each}
use Rattle.eqc_hierarchy.specs.Codes.{formals, has_no_such_model, is_recursive, has_unknown_formal}
use Rattle.eqc_hierarchy.specs.Codes.{has_formal_twice, has_missing_formal}

-- the conditions on an instance
abbrev pub names_no_model : List ModelOf → InstanceOf → Bool
names_no_model library i = model_number library i.model == length library

abbrev pub names_no_formal : List ModelOf → InstanceOf → Bool
names_no_formal library i =
    list_any (λ formal. not (is_named ((model library (model_number library i.model)).inputs
    ++ (model library (model_number library i.model)).outputs) formal)) (formals i)

abbrev pub names_formal_twice : InstanceOf → Bool
names_formal_twice i = has_twice (formals i)

abbrev pub leaves_input_out : List ModelOf → InstanceOf → Bool
leaves_input_out library i = list_any (λ input. not (is_named (formals i) input))
    (model library (model_number library i.model)).inputs

-- the inputs and outputs of a model, each once
abbrev pub ports : List ModelOf → ℕ → List (List ℕ)
ports library m = once_each ((model library m).inputs ++ (model library m).outputs)

-- those of each model, and last none, for a model that isn't there
abbrev pub ports_of : List ModelOf → List (List (List ℕ))
ports_of library = map (ports library) (range_with_len 0 (length library + 1))

-- whether none of the codes of models applies
pub record HasNoModelFault (library : List ModelOf) (top : ℕ) : Type 0 where
  pub models_there : has_no_such_model library top ≡ false
  pub not_recursive : is_recursive library top ≡ false
  pub formals_known : has_unknown_formal library top ≡ false
  pub formals_once : has_formal_twice library top ≡ false
  pub inputs_given : has_missing_formal library top ≡ false

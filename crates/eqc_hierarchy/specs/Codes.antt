-- The codes of flattening, each a condition over all models and instances that the main model
-- reaches.
use Rattle.std.specs.Prelude.{◌≡◌, ℕ, suc, ◌+◌, ◌-◌, ◌≤◌, Bool, false, not, ◌==◌, List, ◌++◌}
use Rattle.std.specs.Prelude.{length, map, Option, Some, None, is_none, nat_lt, if◌then◌else◌}
use Rattle.std.specs.List.{list_any}
use Rattle.eqc_blif.specs.Netlist.{ModelOf, InstanceOf}
use Rattle.eqc_netlist.specs.Names.{is_named, has_twice}
use Rattle.eqc_netlist.specs.Dependency.{ends_within}
use Rattle.eqc_hierarchy.specs.Hierarchy.{model, model_number, callees, reached, paths}
use Rattle.eqc_hierarchy.specs.Signals.{signals, sources, value_at}

-- the formals of an instance
abbrev pub formals : InstanceOf → List (List ℕ)
formals i = map (λ pair. pair.0) i.pairs

-- whether some instance in some reached model passes a test, which also sees the model that is
-- instantiated
abbrev pub some_instance : List ModelOf → ℕ → (ModelOf → InstanceOf → Bool) → Bool
some_instance library top test =
    list_any (λ m. list_any (λ (i : InstanceOf). test (model library (model_number library i.model))
    i) (model library m).instances) (reached library top)

-- 21: an instance of a model that is not in the text
unfoldable pub has_no_such_model : List ModelOf → ℕ → Bool
has_no_such_model library top = some_instance library top (λ callee i. model_number library i.model
    == length library)

-- 22: more instances below one another than there are models, so that a reached model reaches
-- itself
unfoldable pub is_recursive : List ModelOf → ℕ → Bool
is_recursive library top = not (ends_within (callees library) (suc (length library)) top)

-- 23: a formal that is neither input nor output of its model
unfoldable pub has_unknown_formal : List ModelOf → ℕ → Bool
has_unknown_formal library top =
    some_instance library top
    (λ callee i. list_any (λ formal. not (is_named (callee.inputs ++ callee.outputs) formal))
    (formals i))

-- 24: a formal twice in one instance
unfoldable pub has_formal_twice : List ModelOf → ℕ → Bool
has_formal_twice library top = some_instance library top (λ callee i. has_twice (formals i))

-- 25: an input of an instance without a pair
unfoldable pub has_missing_formal : List ModelOf → ℕ → Bool
has_missing_formal library top =
    some_instance library top (λ callee i. list_any (λ input. not (is_named (formals i) input))
    callee.inputs)

-- 29: more than 1,048,576 flat signals and instances together, the main model being no instance
unfoldable pub is_too_large : List ModelOf → ℕ → Bool
is_too_large library top = nat_lt 1048576 (length (signals library top)
    + (length (paths library top) - 1))

-- 30: more inputs of the main model than the limit
unfoldable pub has_many_inputs : List ModelOf → ℕ → ℕ → Bool
has_many_inputs library top limit = nat_lt limit (length (model library top).inputs)

-- 26: a flat signal that is driven twice
unfoldable pub is_driven_twice : List ModelOf → ℕ → Bool
is_driven_twice library top = list_any (λ s. nat_lt 1 (length (sources library top s)))
    (signals library top)

-- 27: a flat signal that nothing drives
unfoldable pub is_undriven : List ModelOf → ℕ → Bool
is_undriven library top = list_any (λ s. length (sources library top s) == 0) (signals library top)

-- 28: a flat signal that has no value at the depth of the number of flat signals, since it depends
-- on itself or on one
-- that does
unfoldable pub is_cyclic : List ModelOf → ℕ → Bool
is_cyclic library top = list_any (λ s. is_none (value_at library top (λ _. false)
    (length (signals library top)) s)) (signals library top)

-- a code where a condition holds, and else what the later conditions give
abbrev pub code_if : Bool → ℕ → Option ℕ → Option ℕ
code_if condition code later = if condition then Some code else later

-- the first code that applies to what drives the signals, where each other one does not
abbrev pub code_of_drivers : List ModelOf → ℕ → Option ℕ
code_of_drivers library top = code_if (is_driven_twice library top) 26
    (code_if (is_undriven library top) 27 (code_if (is_cyclic library top) 28 None))

-- the first code that applies to a library and its main model, which may have as many inputs as the
-- limit; none is an
-- accepted netlist
unfoldable pub flat_code : List ModelOf → ℕ → ℕ → Option ℕ
flat_code library top limit =
    code_if (has_no_such_model library top) 21 (code_if (is_recursive library top) 22
    (code_if (has_unknown_formal library top) 23 (code_if (has_formal_twice library top) 24
    (code_if (has_missing_formal library top) 25
    (code_if (is_too_large library top) 29 (code_if (has_many_inputs library top limit) 30
    (code_of_drivers library top)))))))

-- whether a code is the first that applies under some limit of inputs, which is at most 65,535
abbrev pub IsRefusedWith : List ModelOf → ℕ → ℕ → Type 0
IsRefusedWith library top code = (limit : ℕ) × (limit ≤ 65535)
    × (flat_code library top limit ≡ Some code)

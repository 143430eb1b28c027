-- What is at fault in an instance, in a hierarchy that is refused, named so that it can be found in
-- the text.
use Rattle.std.specs.Prelude.{◌≡◌, ℕ, ◌<◌, true, false, List, [], ◌++◌, length, slice_index_or}
use Rattle.eqc_blif.specs.Netlist.{ModelOf, InstanceOf}
use Rattle.eqc_netlist.specs.Names.{is_named}
use Rattle.eqc_netlist.specs.Dependency.{among}
use Rattle.eqc_hierarchy.specs.Hierarchy.{model, model_number, reached}
use Rattle.eqc_hierarchy.specs.Reaching.{no_instance}
use Rattle.eqc_hierarchy.specs.Codes.{formals}

-- an instance of a model that the main model reaches, by the number of that model and the
-- instance's position there
abbrev pub StandsAt : List ModelOf → ℕ → ℕ × ℕ → InstanceOf → Type 0
StandsAt library top place i =
    (among (reached library top) place.0 ≡ true)
    × (place.1 < length (model library place.0).instances)
    × (i ≡ slice_index_or (model library place.0).instances place.1 no_instance)

-- the model of an instance
abbrev pub callee : List ModelOf → InstanceOf → ModelOf
callee library i = model library (model_number library i.model)

-- 21: an instance asks for a model that isn't there
abbrev pub IsMissingModel : List ModelOf → ℕ → (ℕ × ℕ) × InstanceOf → Type 0
IsMissingModel library top found = StandsAt library top found.0 found.1
    × (model_number library found.1.model ≡ length library)

-- 23: a formal of an instance is neither input nor output of its model
abbrev pub IsUnknownFormal : List ModelOf → ℕ → ((ℕ × ℕ) × InstanceOf) × List ℕ → Type 0
IsUnknownFormal library top found =
    StandsAt library top found.0.0 found.0.1 × (is_named (formals found.0.1) found.1 ≡ true)
    × (is_named ((callee library found.0.1).inputs ++ (callee library found.0.1).outputs)
    found.1 ≡ false)

-- 24: a formal stands at two places of an instance
abbrev pub IsRepeatedFormal : List ModelOf → ℕ → ((ℕ × ℕ) × InstanceOf) × List ℕ → Type 0
IsRepeatedFormal library top found =
    StandsAt library top found.0.0 found.0.1
    × ((j : ℕ)
    × (k : ℕ)
    × (j < k)
    × (k < length (formals found.0.1))
    × (slice_index_or (formals found.0.1) j [] ≡ found.1)
    × (slice_index_or (formals found.0.1) k [] ≡ found.1))

-- 25: an input of an instance's model is no formal of the instance
abbrev pub IsMissingInput : List ModelOf → ℕ → ((ℕ × ℕ) × InstanceOf) × List ℕ → Type 0
IsMissingInput library top found =
    StandsAt library top found.0.0 found.0.1 × (is_named (callee library found.0.1).inputs found.1
    ≡ true) × (is_named (formals found.0.1) found.1 ≡ false)

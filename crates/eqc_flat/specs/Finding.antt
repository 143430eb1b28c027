-- What is at fault in a hierarchy that is refused, named so that it can be found in the text.
use Rattle.std.specs.Prelude.{◌≡◌, ℕ, ◌<◌, ◌+◌, ◌-◌, List, [], ◌∷◌, ◌++◌, length, map, take}
use Rattle.std.specs.Prelude.{slice_index_or, Option, Some, None}
use Rattle.eqc_blif.specs.Netlist.{ModelOf}
use Rattle.eqc_hierarchy.specs.Hierarchy.{model, callees, model_at, paths}
use Rattle.eqc_hierarchy.specs.Walks.{IsWalk, WalksBack, StandOnce}
use Rattle.eqc_flat.specs.HierarchyLaws.{needed}
use Rattle.eqc_hierarchy.specs.Signals.{SignalOf, Driving, signals, sources_in, sources, drivings}
use Rattle.eqc_hierarchy.specs.Codes.{flat_code}
use Rattle.eqc_flat.specs.Flattened.{signal_at}
use Rattle.eqc_flat.specs.declared.finding.hierarchical_name.Step.{Step}
use Rattle.eqc_flat.specs.declared.finding.Finding.{Finding}
use Rattle.eqc_flat.specs.declared.finding.Finding.TheVariants.{NoSuchModel, Recursion}
use Rattle.eqc_flat.specs.declared.finding.Finding.TheVariants.{UnknownFormal, FormalTwice}
use Rattle.eqc_flat.specs.declared.finding.Finding.TheVariants.{MissingInput, DrivenTwice, Undriven}
use Rattle.eqc_flat.specs.declared.finding.Finding.TheVariants.{Circular, TooLarge, ManyInputs}
use Rattle.eqc_hierarchy.specs.InstanceFinding.{IsMissingModel, IsUnknownFormal, IsRepeatedFormal}
use Rattle.eqc_hierarchy.specs.InstanceFinding.{IsMissingInput}
use Rattle.eqc_hierarchy.specs.Sizes.{IsTold}

-- the instances from one up to the main model, the innermost first, each with its position in the
-- model around it and
-- with its own model
abbrev pub steps_of : List ModelOf → ℕ → List ℕ → List Step
steps_of library top [] = []
steps_of library top (position ∷ up) = record {
  position = position;
  model =
      model_at library top (position ∷ up);
} ∷ steps_of library top up

-- the hierarchical name of a flat signal: its instance, and its name there
abbrev pub hierarchical_name : List ModelOf → ℕ → SignalOf → List Step × List ℕ
hierarchical_name library top s = (steps_of library top s.path, s.name)

-- of some drivings a number in a row drive a flat signal twice, and those before the last of these
-- drive none twice
abbrev pub IsFirstDrivenTwice : List ModelOf → ℕ → List Driving → SignalOf → Type 0
IsFirstDrivenTwice library top all s =
    (k : ℕ)
    × (k < length all)
    × (1 < length (sources_in (take (k + 1) all) s))
    × ((t : ℕ) → t < length (signals library top)
    → length (sources_in (take k all) (signal_at library top t)) < 2)

-- 26: a flat signal of this name is driven twice, the first of which that is found where the
-- drivings are gone through
-- in their order: the main model's inputs, then instance by instance what its covers drive and what
-- its pairs drive
abbrev pub NamesDrivenTwice : List ModelOf → ℕ → List Step × List ℕ → Type 0
NamesDrivenTwice library top name =
    (s : ℕ) × (s < length (signals library top))
    × (name ≡ hierarchical_name library top (signal_at library top s))
    × IsFirstDrivenTwice library top (drivings library top) (signal_at library top s)

-- 27: nothing drives a flat signal of this name, the first of which that holds
abbrev pub NamesUndriven : List ModelOf → ℕ → List Step × List ℕ → Type 0
NamesUndriven library top name =
    (s : ℕ) × (s < length (signals library top))
    × (name ≡ hierarchical_name library top (signal_at library top s))
    × (sources library top (signal_at library top s) ≡ [])
    × ((k : ℕ) → k < s → sources library top (signal_at library top k) ≡ [] → ⊥)

-- 28: of some flat signals, none of which stands twice, each depends on the next one, and the last
-- on the first; their
-- first twenty are named, and their number is told
abbrev pub IsCircle : List ModelOf → ℕ → List (List Step × List ℕ) × ℕ → Type 0
IsCircle library top circle =
    (members : List ℕ)
    × (0 < length members)
    × (circle.1 ≡ length members)
    × (circle.0 ≡ map (λ s. hierarchical_name library top (signal_at library top s))
    (take 20 members))
    × ((k : ℕ) → k < length members → slice_index_or members k 0 < length (signals library top))
    × StandOnce members
    × IsWalk (needed library top) (map (signal_at library top) (members ++ slice_index_or members 0
    0 ∷ []))

-- what is named holds of the hierarchy, which is refused for it where the main model may have as
-- many inputs as the limit
abbrev pub IsAtFault : List ModelOf → ℕ → ℕ → Finding → Type 0
IsAtFault library top limit (NoSuchModel found) = (flat_code library top limit ≡ Some 21)
    × IsMissingModel library top found
IsAtFault library top limit (Recursion models) = (flat_code library top limit ≡ Some 22)
    × WalksBack (callees library) top models.items
IsAtFault library top limit (UnknownFormal found) = (flat_code library top limit ≡ Some 23)
    × IsUnknownFormal library top found
IsAtFault library top limit (FormalTwice found) = (flat_code library top limit ≡ Some 24)
    × IsRepeatedFormal library top found
IsAtFault library top limit (MissingInput found) = (flat_code library top limit ≡ Some 25)
    × IsMissingInput library top found
IsAtFault library top limit (DrivenTwice name) = (flat_code library top limit ≡ Some 26)
    × NamesDrivenTwice library top name
IsAtFault library top limit (Undriven name) = (flat_code library top limit ≡ Some 27)
    × NamesUndriven library top name
IsAtFault library top limit (Circular circle) = (flat_code library top limit ≡ Some 28)
    × IsCircle library top circle
IsAtFault library top limit (TooLarge size most) =
    (flat_code library top limit ≡ Some 29)
    × (most ≡ 1048576)
    × (most < length (signals library top) + (length (paths library top) - 1))
    × IsTold size (length (signals library top) + (length (paths library top) - 1))
IsAtFault library top limit (ManyInputs inputs most) = (flat_code library top limit ≡ Some 30)
    × (inputs ≡ length (model library top).inputs) × (most ≡ limit) × (limit < inputs)

-- what is at fault, or none where nothing is refused
abbrev pub IsExplained : List ModelOf → ℕ → ℕ → Option Finding → Type 0
IsExplained library top limit None = flat_code library top limit ≡ None
IsExplained library top limit (Some finding) = IsAtFault library top limit finding

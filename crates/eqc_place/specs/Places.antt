-- What is told of the place of a difference.
use Rattle.std.specs.Prelude.{◌≡◌, ℕ, ◌<◌, Bool, true, not, ltb, List, length, map, All, Option}
use Rattle.std.specs.Prelude.{Some, IfSome, slice_index}
use Rattle.eqc_xag.specs.Graph.{differ, literal_value, IsWithin}
use Rattle.eqc_xag.specs.declared.node.Node.{Node}
use Rattle.eqc_netlist.specs.Graph.{value_of}
use Rattle.eqc_pair.specs.PairOf.{PairOf, assumed_variables, input_values}
use Rattle.eqc_build.specs.Building.{reference_of}
use Rattle.eqc_build.specs.Steps.{StepsOf, inputs_under, steps_in, uses_of, value_at}
use Rattle.eqc_place.specs.declared.place.Partner.{Partner}
use Rattle.eqc_place.specs.declared.place.Column.{Column}
use Rattle.eqc_place.specs.declared.place.Place.{Place}
use Rattle.eqc_place.specs.declared.place.Places.{Places}
use Rattle.eqc_place.specs.declared.place.Meeting.{Meeting}

-- the assumption allows values of the variables: its output is 1 under them. Without an assumption
-- all are allowed
pub record IsAllowed (p : PairOf) (a : ℕ → Bool) : Type 0 where
  pub holds : IfSome p.assumes (λ h. value_of h (inputs_under (assumed_variables p) a)
      (slice_index h.output_signals 0) ≡ true)

-- a literal of the graph has the value of a step under all values of the variables that are allowed
pub record HasAllowedValue (p : PairOf) (nodes : List Node) (step l : ℕ) : Type 0 where
  pub within : IsWithin nodes l
  pub value : (a : ℕ → Bool) → IsAllowed p a → literal_value nodes a l ≡ value_at p a step

-- each literal of a table has the value of its step so
pub record HaveAllowedValues (p : PairOf) (nodes : List Node) (literals : List (Option ℕ)) : Type 0
  where
    pub each : (k l : ℕ) → reference_of literals k ≡ Some l → HasAllowedValue p nodes k l

-- literals of steps in some graph
pub record AreProved (p : PairOf) (literals : List (Option ℕ)) : Type 0 where
  pub nodes : List Node
  pub are : HaveAllowedValues p nodes literals

-- a step has the value of its partner, or the opposite one, under all values of the variables that
-- are allowed
pub record IsPartner (p : PairOf) (step : ℕ) (q : Partner) : Type 0 where
  pub value : (a : ℕ → Bool) → IsAllowed p a → value_at p a step ≡ differ q.is_opposite
      (value_at p a q.step)

-- exactly one of two steps is of the first netlist
pub record AreApart (p : PairOf) (step other : ℕ) : Type 0 where
  pub apart : ltb other (length p.first.drivers) ≡ not (ltb step (length p.first.drivers))

-- a column has the value of its step, and its partner is one, in the other netlist
pub record IsColumn (p : PairOf) (a : ℕ → Bool) (c : Column) : Type 0 where
  pub value : c.value ≡ value_at p a c.step
  pub partner : IfSome c.partner (IsPartner p c.step)
  pub apart : IfSome c.partner (λ (q : Partner). AreApart p c.step q.step)

-- these are columns for steps
pub record AreColumns (p : PairOf) (a : ℕ → Bool) (steps : List ℕ) (columns : List Column) : Type 0
  where
    pub same : map (λ (c : Column). c.step) columns ≡ steps
    pub each : All (IsColumn p a) columns

-- a place is a step with its value, and with all that it uses
pub record IsPlace (g : StepsOf) (a : ℕ → Bool) (x : Place) : Type 0 where
  pub within : x.step < steps_in g.pair
  pub value : x.value ≡ value_at g.pair a x.step
  pub columns : AreColumns g.pair a (uses_of g x.step) x.columns.items

-- places of a pair where the first netlist's inputs have these values, with what would mend each
pub record AreLocated (p : PairOf) (values : List Bool) (places : Places) : Type 0 where
  pub steps : StepsOf
  pub pair : steps.pair ≡ p
  pub each : All (IsPlace steps (input_values p values)) places.each.items
  pub mendings : length places.mendings.items ≡ length places.each.items

-- a step of the first netlist and its partner, which is of the second one
pub record IsMeeting (p : PairOf) (m : Meeting) : Type 0 where
  pub first : m.step < length p.first.drivers
  pub partner : IsPartner p m.step m.partner
  pub apart : AreApart p m.step m.partner.step

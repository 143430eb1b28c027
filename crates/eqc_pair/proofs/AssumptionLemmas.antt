-- The netlist of an assumption, or the one without signals that stands for none.
use Rattle.std.proofs.Common.{◌≡◌, ℕ, suc, ◌+◌, ◌<◌, ◌≤◌, Bool, true, false, not, List, [], ◌∷◌}
use Rattle.std.proofs.Common.{map, length, nat_eq, eqb, get_or, refl, sym, ◌∙◌, ap, arith, Option}
use Rattle.std.proofs.Common.{Some, None, IfSome}
use Rattle.std.specs.Option.{unwrap_or}
use Rattle.std.proofs.lemmas.Bool.{eq-eqb, ne_eqb}
use Rattle.eqc_netlist.specs.Graph.{FlatOf, IsFlat, FollowsDrivers}
use Rattle.eqc_pair.specs.Matched.{position_of, has_all}
use Rattle.eqc_pair.specs.PairOf.{PairOf, IsPair, IsAssumption, ArePlaces, no_netlist, assumed}
use Rattle.eqc_pair.specs.PairOf.{assumption_refusal, assumption_refused}

-- a netlist without signals is one
none_flat : IsFlat no_netlist
none_flat = record {
  few_inputs = omega arith;
  few_signals = omega arith;
  few_outputs = omega arith;
  each_named = refl;
  each_output = refl;
  inputs_differ = refl;
  outputs_differ = refl;
  outputs_within = λ o lt. absurd (omega arith);
  drivers_within = λ s lt. absurd (omega arith);
  steps_within = λ k lt. absurd (omega arith);
  instances_within = λ s lt. absurd (omega arith);
  parents_before = λ i some few. absurd (omega arith);
  ordered = refl;
  each_step = λ s lt. absurd (omega arith);
  step_count = refl;
  once = λ i j lt _ _. absurd (omega arith);
}

pub none_follows : FollowsDrivers no_netlist
none_follows a s lt = absurd (omega arith)

pub none_placed : ArePlaces no_netlist []
none_placed = record {
  size = refl;
  within = λ s lt. absurd (omega arith);
  at =
      λ s lt. absurd (omega arith);
}

module _ (inputs : List (List ℕ)) where
  flat_by : (h : Option FlatOf) → IfSome h (IsAssumption inputs) → IsFlat (unwrap_or h no_netlist)
  flat_by None is = none_flat
  flat_by (Some h) is = is.flat

  known_by : (h : Option FlatOf) → IfSome h (IsAssumption inputs)
      → has_all inputs (unwrap_or h no_netlist).inputs ≡ true
  known_by None is = refl
  known_by (Some h) is = is.known_inputs

-- what is assumed is a flat netlist over inputs of the pair
pub assumed_flat : (p : PairOf) → IsPair p → IsFlat (assumed p)
assumed_flat p h = flat_by p.first.inputs p.assumes h.assuming

pub assumed_known : (p : PairOf) → IsPair p → has_all p.first.inputs (assumed p).inputs ≡ true
assumed_known p h = known_by p.first.inputs p.assumes h.assuming

-- an assumption that isn't refused
pub assumption_taken : (inputs : List (List ℕ)) (h : FlatOf) → has_all inputs h.inputs ≡ true
    → length h.outputs ≡ 1 → assumption_refusal inputs h ≡ None
assumption_taken inputs h known one = rw (known, eq-eqb (length h.outputs) 1 one) refl

-- one with another number of outputs
pub assumption_of_outputs : (inputs : List (List ℕ)) (h : FlatOf) → has_all inputs h.inputs ≡ true
    → (length h.outputs ≡ 1 → ⊥) → assumption_refusal inputs h ≡ Some (assumption_refused 62)
assumption_of_outputs inputs h known several = rw (known, ne_eqb (length h.outputs) 1 several) refl

use Rattle.std.proofs.Common.{ℕ, List, ap, ◌∙◌, length, get_or, map, refl}
use Rattle.eqc_pair.specs.PairOf.{first_variables, second_variables, assumed_variables}
use Rattle.eqc_pair.specs.PairOf.{second_signals}
use Rattle.eqc_pair.proofs.OrderedLemmas.{both_ways, places_fit, length-variables_in}
use Rattle.eqc_pair.proofs.OrderedLemmas.{variables_picked, signals_picked}
use Rattle.eqc_pair.proofs.AssumptionLemmas.{none_placed}
use Rattle.eqc_pair.proofs.matched_pair.Pair.laid_out.Goals as goal

pub pick-requires : goal.pick-requires
pick-requires c =
    let m = c.requires.matched in
    places_fit c.args.first.now.inputs c.args.second.now.inputs c.deref-2.result.now
    (length c.deref.result.now)
    (both_ways c.args.first.now.inputs c.args.second.now.inputs m.same_inputs).0
    (c.deref-2.ensures.value ∙ m.inputs_are)
    (ap length (c.deref.ensures.value ∙ c.requires.variables)
    ∙ length-variables_in (length c.args.first.now.inputs) c.args.order.positions.items)

pub pick-requires-2 : goal.pick-requires-2
pick-requires-2 c =
    let m = c.requires.matched in
    places_fit c.args.second.now.outputs c.args.first.now.outputs c.deref-3.result.now
    (length c.output_signals.result.now)
    (both_ways c.args.first.now.outputs c.args.second.now.outputs m.same_outputs).1
    (c.deref-3.ensures.value ∙ m.outputs_are)
    (ap length c.output_signals.ensures.signals ∙ c.requires.second.each_output)

pub invariant_of-result : goal.invariant_of-result
unfolding first_variables second_variables assumed_variables second_signals
invariant_of-result c =
    let m = c.requires.matched in
    record {
      lawful =
          record {
            first_flat = c.requires.first;
            second_flat = c.requires.second;
            few_inputs = c.requires.first.few_inputs;
            same_inputs = m.same_inputs;
            same_outputs = m.same_outputs;
            ordered = c.requires.order;
            assuming = tt;
          };
      variables_are = c.requires.variables;
      seconds_are =
          variables_picked c.args.order.positions.items c.deref.result.now c.deref-2.result.now
          c.in_ok-second_variables.second_variables.items
          c.args.first.now.inputs c.args.second.now.inputs (both_ways c.args.first.now.inputs
          c.args.second.now.inputs m.same_inputs).0
          (c.deref.ensures.value ∙ c.requires.variables) (c.deref-2.ensures.value
          ∙ m.inputs_are) (c.in_ok-second_variables.ensures 0);
      thirds_are = rw c.new.ensures.items refl;
      signals_are =
          signals_picked c.args.second.now.output_signals c.deref-3.result.now
          c.in_ok-second_signals.second_signals.items
          c.args.second.now.outputs c.args.first.now.outputs (c.deref-3.ensures.value
          ∙ m.outputs_are)
          (c.in_ok-second_signals.ensures 0
          ∙ ap (λ (l : List ℕ). map (λ place. get_or l place 0) c.deref-3.result.now)
          c.output_signals.ensures.signals);
      first_steps = c.in_ok-first_places.ensures;
      second_steps = c.in_ok-second_places.ensures;
      assumed_steps = rw c.new-2.ensures.items none_placed;
      left_out_are = m.left_out_are;
    }

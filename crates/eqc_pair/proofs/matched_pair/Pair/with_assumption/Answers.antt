use Rattle.std.proofs.Common.{◌≡◌, ap, sym, ◌∙◌, length, map, subst}
use Rattle.eqc_netlist.specs.Graph.{FlatOf}
use Rattle.eqc_pair.specs.Matched.{position_of}
use Rattle.eqc_pair.specs.PairOf.{PairOf, IsAssumption, first_variables, second_variables}
use Rattle.eqc_pair.specs.PairOf.{assumed_variables, second_signals}
use Rattle.eqc_pair.proofs.OrderedLemmas.{places_fit, length-variables_in, variables_picked}
use Rattle.eqc_pair.proofs.matched_pair.Pair.with_assumption.Goals as goal

pub pick-requires : goal.pick-requires
unfolding first_variables
pick-requires c =
    let whole = ap length (c.deref.ensures.value ∙ c.self.invariant.variables_are)
    ∙ (length-variables_in (length c.self.inside.first.now.inputs) c.self.inside.order.items
    ∙ ap (λ (p : PairOf). length p.first.inputs) c.self.view_is) in
    places_fit c.args.self.first.inputs c.args.assumed.now.inputs c.args.inputs.now
    (length c.deref.result.now) c.requires.assumed.known_inputs c.requires.inputs whole

pub invariant_of-result : goal.invariant_of-result
unfolding first_variables second_variables assumed_variables second_signals
invariant_of-result c =
    let i = c.self.invariant in
    let back : c.args.self.first ≡ c.self.inside.first.now =
    ap (λ (p : PairOf). p.first) (sym c.self.view_is) in
    let assuming : IsAssumption c.self.inside.first.now.inputs c.args.assumed.now =
    subst (λ (f : FlatOf). IsAssumption f.inputs c.args.assumed.now) back c.requires.assumed in
    let places : c.args.inputs.now ≡ map (position_of c.self.inside.first.now.inputs)
    c.args.assumed.now.inputs =
    subst (λ (f : FlatOf). c.args.inputs.now ≡ map (position_of f.inputs) c.args.assumed.now.inputs)
    back c.requires.inputs in
    record {
      lawful = record {
        first_flat = i.lawful.first_flat;
        second_flat = i.lawful.second_flat;
        few_inputs = i.lawful.few_inputs;
        same_inputs = i.lawful.same_inputs;
        same_outputs = i.lawful.same_outputs;
        ordered = i.lawful.ordered;
        assuming = assuming;
      };
      variables_are = i.variables_are;
      seconds_are = i.seconds_are;
      thirds_are =
          variables_picked c.self.inside.order.items c.deref.result.now c.args.inputs.now
          c.in_ok-assumed_variables.assumed_variables.items
          c.self.inside.first.now.inputs c.args.assumed.now.inputs assuming.known_inputs
          (c.deref.ensures.value ∙ i.variables_are) places
          (c.in_ok-assumed_variables.ensures 0);
      signals_are = i.signals_are;
      first_steps = i.first_steps;
      second_steps = i.second_steps;
      assumed_steps = c.in_ok-assumed_places.ensures;
      left_out_are = i.left_out_are;
    }

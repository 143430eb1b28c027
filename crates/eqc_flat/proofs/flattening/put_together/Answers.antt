use Rattle.std.proofs.Common.{◌≡◌, ◌≤◌, ◌∙◌, [], ℕ, List, Bor, map, length, sym, ap, subst}
use Rattle.eqc_blif.specs.Netlist.{ModelOf}
use Rattle.eqc_netlist.specs.Names.{has_twice}
use Rattle.eqc_netlist.specs.Graph.{FlatOf, IsFlat}
use Rattle.eqc_hierarchy.specs.Signals.{signals}
use Rattle.eqc_flat.specs.Flattened.{path_at, IsFlatOf}
use Rattle.eqc_flat.specs.RowTable.{all_rows}
use Rattle.eqc_flat.proofs.InstanceLaws.{root_path}
use Rattle.eqc_flat.proofs.FlatLaws.{IsParts, flat_same, expanded_few, parts_flat, parts_flat_of}
use Rattle.eqc_flat.proofs.flattening.put_together.Goals as goal

pub new-requires : goal.new-requires
new-requires c =
    let library = c.args.hierarchy.0 in
    let top = c.args.hierarchy.1 in
    let inputs = c.main_ports.ensures.inputs in
    let outputs = c.main_ports.ensures.outputs in
    let rows = c.into_rows-rows.ensures ∙ ap all_rows c.requires.same in
    let all = c.hierarchy.inside.instances in
    let few : length (signals library top) ≤ 1048576 =
    let P : List ModelOf × ℕ → Type 0 = λ v. length (signals v.0 v.1) ≤ 1048576 in
    subst P c.hierarchy.view_is
    (expanded_few c.hierarchy.inside.calls c.hierarchy.inside.naming.now all.top all.signals
    all.models.items all.firsts.items
    all.places.items c.hierarchy.invariant) in
    let os = c.in_ok-output_signals.output_signals.items in
    let named = map {B = ℕ × List ℕ} (λ (p : ℕ × Bor (List ℕ)). (p.0, p.1.now))
    c.in_ok-output_signals.signals.items in
    let places = c.into_places-places.result.items in
    let drivers = c.args.drivers in
    let steps = c.args.steps.items in
    let parts : IsParts library top os named places drivers steps = record {
      few_inputs = c.requires.few;
      few_signals = few;
      inputs_once = sym (ap has_twice inputs) ∙ c.main_ports.ensures.inputs_once;
      outputs_once = sym (ap has_twice outputs) ∙ c.main_ports.ensures.outputs_once;
      outputs_of = c.in_ok-output_signals.ensures.outputs;
      outputs_within = c.in_ok-output_signals.ensures.within;
      root = let P : List ModelOf × ℕ → Type 0 = λ v. path_at v.0 v.1 0 ≡ [] in
          subst P c.hierarchy.view_is (root_path c.hierarchy.inside.calls all.top
          c.hierarchy.invariant.growing);
      named_all = c.in_ok-output_signals.ensures.named;
      placed = c.into_places-places.ensures.placed;
      parents = c.into_places-places.ensures.parents;
      driven = c.requires.driven;
      ordered = c.requires.ordered;
    } in
    let same = flat_same library top c.main_ports.result.0.now c.main_ports.result.1.now os named
    places drivers c.into_rows-rows.result.items steps inputs outputs rows in
    let P : FlatOf → Type 0 = λ f. IsFlat f in
    subst P same (parts_flat library top os named places drivers steps parts)

pub returns : goal.returns
returns c =
    let library = c.args.hierarchy.0 in
    let top = c.args.hierarchy.1 in
    let inputs = c.main_ports.ensures.inputs in
    let outputs = c.main_ports.ensures.outputs in
    let rows = c.into_rows-rows.ensures ∙ ap all_rows c.requires.same in
    let all = c.hierarchy.inside.instances in
    let few : length (signals library top) ≤ 1048576 =
    let P : List ModelOf × ℕ → Type 0 = λ v. length (signals v.0 v.1) ≤ 1048576 in
    subst P c.hierarchy.view_is
    (expanded_few c.hierarchy.inside.calls c.hierarchy.inside.naming.now all.top all.signals
    all.models.items all.firsts.items
    all.places.items c.hierarchy.invariant) in
    let os = c.in_ok-output_signals.output_signals.items in
    let named = map {B = ℕ × List ℕ} (λ (p : ℕ × Bor (List ℕ)). (p.0, p.1.now))
    c.in_ok-output_signals.signals.items in
    let places = c.into_places-places.result.items in
    let drivers = c.args.drivers in
    let steps = c.args.steps.items in
    let parts : IsParts library top os named places drivers steps = record {
      few_inputs = c.requires.few;
      few_signals = few;
      inputs_once = sym (ap has_twice inputs) ∙ c.main_ports.ensures.inputs_once;
      outputs_once = sym (ap has_twice outputs) ∙ c.main_ports.ensures.outputs_once;
      outputs_of = c.in_ok-output_signals.ensures.outputs;
      outputs_within = c.in_ok-output_signals.ensures.within;
      root = let P : List ModelOf × ℕ → Type 0 = λ v. path_at v.0 v.1 0 ≡ [] in
          subst P c.hierarchy.view_is (root_path c.hierarchy.inside.calls all.top
          c.hierarchy.invariant.growing);
      named_all = c.in_ok-output_signals.ensures.named;
      placed = c.into_places-places.ensures.placed;
      parents = c.into_places-places.ensures.parents;
      driven = c.requires.driven;
      ordered = c.requires.ordered;
    } in
    let same = flat_same library top c.main_ports.result.0.now c.main_ports.result.1.now os named
    places drivers c.into_rows-rows.result.items steps inputs outputs rows in
    let P : FlatOf → Type 0 = λ f. IsFlatOf library top f in
    subst P (same ∙ sym c.new.ensures) (parts_flat_of library top os named places drivers steps
    parts)

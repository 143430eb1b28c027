use Rattle.std.proofs.Common.{◌∙◌, ◌+◌, ◌<◌, ap, arith, not, length, ℕ, List}
use Rattle.std.specs.Prelude.{position}
use Rattle.eqc_netlist.specs.Names.{is_named}
use Rattle.eqc_blif.specs.Netlist.{ModelOf, InstanceOf}
use Rattle.eqc_hierarchy.specs.Hierarchy.{model_number}
use Rattle.eqc_hierarchy.specs.ModelFaults.{ports}
use Rattle.eqc_hierarchy.proofs.CallLaws.{made_at, made_count, number_within}
use Rattle.eqc_hierarchy.proofs.condition.instance_conditions.NamesNoFormal.first_unknown.Goals as goal

pub index-requires : goal.index-requires
index-requires c =
    omega (
      arith,
      c.model_number-callee.ensures,
      number_within c.self.inside.library.now c.instance.inside.model,
      made_count (ports c.self.inside.library.now) c.self.inside.ports.items (length c.self.inside.library.now) c.self.invariant,
      c.self.inside.ports.ok.0,
    )

pub returns : goal.returns
returns c =
    let library = c.self.inside.library.now in
    let inside : c.model_number-callee.result < length library + 1 = omega (arith, c.model_number-callee.ensures, number_within library c.instance.inside.model) in
    let known =
    made_at (ports library) c.self.inside.ports.items (length library) c.model_number-callee.result c.index.result.now c.self.invariant
    inside c.index.ensures
    ∙ ap (ports library) (c.model_number-callee.ensures ∙ ap (λ (i : InstanceOf). model_number library i.model) c.instance.view_is) in
    let pairs = c.deref.ensures.value ∙ ap (λ (i : InstanceOf). i.pairs) c.instance.view_is in
    c.first_other.ensures
    ∙ (ap (position (λ (pair : List ℕ × List ℕ). not (is_named c.index.result.now pair.0))) pairs
    ∙ (ap (λ (names : List (List ℕ)). position (λ (pair : List ℕ × List ℕ). not (is_named names pair.0)) c.args.instance.now.pairs) known
    ∙ ap (λ (l : List ModelOf). position (λ (pair : List ℕ × List ℕ). not (is_named (ports l (model_number l c.args.instance.now.model)) pair.0)) c.args.instance.now.pairs) c.self.view_is))

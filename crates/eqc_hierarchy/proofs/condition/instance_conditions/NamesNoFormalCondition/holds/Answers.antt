use Rattle.std.proofs.Common.{◌∙◌, ◌+◌, ◌<◌, ap, arith, length}
use Rattle.eqc_blif.specs.Netlist.{InstanceOf}
use Rattle.eqc_hierarchy.specs.Hierarchy.{model_number}
use Rattle.eqc_hierarchy.specs.ModelFaults.{ports, names_no_formal}
use Rattle.eqc_hierarchy.proofs.CallLaws.{made_at, made_count, number_within}
use Rattle.eqc_hierarchy.proofs.ModelFaultLaws.{no_formal_is}
use Rattle.eqc_hierarchy.proofs.condition.instance_conditions.NamesNoFormalCondition.holds.Goals as goal

pub index-requires : goal.index-requires
index-requires c =
    omega (
      arith,
      c.model_number-callee.ensures,
      number_within c.self.inside.library.now c.instance.inside.model,
      made_count (ports c.self.inside.library.now) c.self.inside.ports.items (length c.self.inside.library.now) c.self.invariant,
      c.self.inside.ports.ok.0,
    )

pub returns : goal.returns
returns c =
    let inside : c.model_number-callee.result < length c.self.inside.library.now + 1 = omega (arith, c.model_number-callee.ensures, number_within c.self.inside.library.now c.instance.inside.model) in
    let known =
    made_at (ports c.self.inside.library.now) c.self.inside.ports.items (length c.self.inside.library.now) c.model_number-callee.result
    c.index.result.now c.self.invariant inside c.index.ensures in
    c.has_other.ensures
    ∙ (no_formal_is c.self.inside.library.now c.args.instance.now c.index.result.now
    (known
    ∙ ap (ports c.self.inside.library.now)
    (c.model_number-callee.ensures
    ∙ ap (λ (i : InstanceOf). model_number c.self.inside.library.now i.model) c.instance.view_is))
    ∙ ap (λ l. names_no_formal l c.args.instance.now) c.self.view_is)

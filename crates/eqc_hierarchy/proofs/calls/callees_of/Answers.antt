use Rattle.std.proofs.Common.{◌∙◌, ap, arith, map}
use Rattle.std.proofs.lemmas.List.{take_all}
use Rattle.eqc_blif.specs.Netlist.{InstanceOf}
use Rattle.eqc_hierarchy.specs.Hierarchy.{callees, model_number}
use Rattle.eqc_hierarchy.proofs.calls.callees_of.Goals as goal

pub returns : goal.returns
unfolding callees
returns c =
    c.instances.invariant
    ∙ (ap (map (λ (i : InstanceOf). model_number c.args.library.now i.model))
    (take_all c.instances.instance-index c.instances-instances.result.now (omega arith))
    ∙ ap (map (λ (i : InstanceOf). model_number c.args.library.now i.model))
    c.instances-instances.ensures)

use Rattle.std.proofs.Common.{◌∙◌, ap, ℕ, List}
use Rattle.eqc_blif.specs.Netlist.{ModelOf}
use Rattle.eqc_netlist.specs.Dependency.{among}
use Rattle.eqc_hierarchy.specs.Hierarchy.{reached}
use Rattle.eqc_hierarchy.proofs.ModelFaultLaws.{same_instances}
use Rattle.eqc_hierarchy.proofs.instance_findings.first_at_fault.Goals as goal

pub unwrap-model-requires : goal.unwrap-model-requires
unwrap-model-requires g c =
    c.in_ok-found.ensures.some
    ∙ (same_instances c.args.library.now c.args.top c.deref.result.now
    (g.C.Condition.test c.args.condition.now)
    (λ m.
    ap (λ (l : List ℕ). among l m) c.deref.ensures.value
    ∙ (c.in_ok-models.ensures.each m ∙ ap (λ (l : List ModelOf). among (reached l c.args.top) m)
    c.in_ok-calls.ensures))
    ∙ c.requires.some)

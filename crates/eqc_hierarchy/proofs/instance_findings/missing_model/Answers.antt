use Rattle.std.proofs.Common.{◌≡◌, List, true, sym, subst}
use Rattle.eqc_blif.specs.Netlist.{ModelOf}
use Rattle.eqc_hierarchy.specs.Hierarchy.{reached}
use Rattle.eqc_hierarchy.specs.Reaching.{some_instance_in}
use Rattle.eqc_hierarchy.specs.ModelFaults.{names_no_model}
use Rattle.eqc_hierarchy.proofs.FaultLaws.{model_missing}
use Rattle.eqc_hierarchy.proofs.instance_findings.missing_model.Goals as goal

pub first_at_fault-requires-clause-some : goal.first_at_fault-requires-clause-some
first_at_fault-requires-clause-some c =
    let P : List ModelOf → Type 0 = λ l. some_instance_in c.args.library.now
    (reached c.args.library.now c.args.top) (names_no_model l) ≡ true in
    subst P (sym c.new-condition.ensures) (model_missing c.args.library.now c.args.top
    c.requires.refused)

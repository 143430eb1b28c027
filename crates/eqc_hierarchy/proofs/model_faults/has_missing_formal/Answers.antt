use Rattle.std.proofs.lemmas.Result.{IfOk-weaker}
use Rattle.eqc_hierarchy.proofs.ModelFaultLaws.{missing_formal_is}
use Rattle.eqc_hierarchy.proofs.model_faults.has_missing_formal.Goals as goal

pub returns : goal.returns
returns c = IfOk-weaker _ _ _ (λ some is. missing_formal_is c.args.library.now c.args.models.now
    some is) (rw c.new-condition.ensures at c.some_instance.ensures)

use Rattle.std.proofs.lemmas.Result.{IfOk-weaker}
use Rattle.eqc_hierarchy.proofs.ModelFaultLaws.{unknown_formal_is}
use Rattle.eqc_hierarchy.proofs.model_faults.has_unknown_formal.Goals as goal

pub returns : goal.returns
returns c = IfOk-weaker _ _ _ (λ some is. unknown_formal_is c.args.library.now c.args.models.now
    some is) (rw c.in_ok-condition.ensures at c.some_instance.ensures)

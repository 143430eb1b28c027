use Rattle.std.proofs.lemmas.Result.{IfOk-weaker}
use Rattle.eqc_hierarchy.proofs.ModelFaultLaws.{no_such_model_is}
use Rattle.eqc_hierarchy.proofs.model_faults.has_no_such_model.Goals as goal

pub returns : goal.returns
returns c = IfOk-weaker _ _ _ (λ some is. no_such_model_is c.args.library.now c.args.models.now some
    is) (rw c.new-condition.ensures at c.some_instance.ensures)

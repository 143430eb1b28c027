use Rattle.std.proofs.lemmas.Result.{IfOk-weaker}
use Rattle.eqc_hierarchy.proofs.ModelFaultLaws.{formal_twice_is}
use Rattle.eqc_hierarchy.proofs.model_faults.has_formal_twice.Goals as goal

pub returns : goal.returns
returns c = IfOk-weaker _ _ _ (λ some is. formal_twice_is c.args.library.now c.args.models.now some
    is) c.some_instance.ensures

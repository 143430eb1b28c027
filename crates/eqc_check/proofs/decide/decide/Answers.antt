use Rattle.eqc_pair.specs.declared.refused.Side.TheVariants as side
use Rattle.eqc_case.proofs.LeftLaws.{told_refusal_tells}
use Rattle.eqc_check.proofs.decide.decide.Goals as goal

pub returns-in-Err-clause-left : goal.returns-in-Err-clause-left
returns-in-Err-clause-left g c = told_refusal_tells _ side.First c.in-Err.refusal
    c.told_refusal.result _ c.told_refusal.ensures

use Rattle.eqc_miter.proofs.MiterLaws.{says_allowed, says_always}
use Rattle.eqc_miter.proofs.difference.allowed_literal.Goals as goal

pub returns-in_default-clause-allowed : goal.returns-in_default-clause-allowed
returns-in_default-clause-allowed c = says_always c.args.steps.now c.args.sweep.now
    c.constant.result c.in_default.ensures c.constant.ensures

pub returns-clause-allowed : goal.returns-clause-allowed
returns-clause-allowed c = says_allowed c.args.steps.now c.args.sweep.now c.args.literals.now
    c.in-Some.root c.literal_of.result c.requires c.in-Some.ensures c.literal_of.ensures

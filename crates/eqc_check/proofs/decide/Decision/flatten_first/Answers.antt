use Rattle.eqc_pair.specs.declared.refused.Side.TheVariants as side
use Rattle.eqc_case.specs.Sources.{given_of}
use Rattle.eqc_case.proofs.ReportsLaws.{first_fault, refused_stop}
use Rattle.eqc_case.proofs.LeftLaws.{refused_tells}
use Rattle.eqc_check.proofs.decide.Decision.flatten_first.Goals as goal

pub returns-in-Ok-clause-report : goal.returns-in-Ok-clause-report
returns-in-Ok-clause-report g c = c.flatten_second.ensures.report (
  c.args.first.0.now,
  c.args.first.1,
) (rw c.limit.ensures at c.in-Ok.ensures.accepted) c.in-Ok.ensures.flat

pub returns-in-Ok-clause-stop : goal.returns-in-Ok-clause-stop
returns-in-Ok-clause-stop g c = c.flatten_second.ensures.stop (c.args.first.0.now, c.args.first.1)
    (rw c.limit.ensures at c.in-Ok.ensures.accepted) c.in-Ok.ensures.flat

pub returns-in-Err-clause-report : goal.returns-in-Err-clause-report
returns-in-Err-clause-report g c =
    first_fault (c.args.first.0.now, c.args.first.1) (c.args.second.0.now, c.args.second.1)
    (given_of c.args.self.now.case.now)
    c.in-Err.field-0.code c.refused.result c.refused.ensures (rw c.limit.ensures at
    c.in-Err.ensures.refused)

pub returns-in-Err-clause-stop : goal.returns-in-Err-clause-stop
returns-in-Err-clause-stop g c = refused_stop side.First (record {
  line = 0;
  code =
      c.in-Err.field-0.code;
}) c.refused.result _ c.refused.ensures

pub returns-in-Ok-clause-left : goal.returns-in-Ok-clause-left
returns-in-Ok-clause-left g c = c.flatten_second.ensures.left (c.args.first.0.now, c.args.first.1)
    c.in-Ok.ensures.flat

pub returns-in-Err-clause-left : goal.returns-in-Err-clause-left
returns-in-Err-clause-left g c = refused_tells _ side.First (record {
  line = 0;
  code =
      c.in-Err.field-0.code;
}) c.refused.result _ c.refused.ensures

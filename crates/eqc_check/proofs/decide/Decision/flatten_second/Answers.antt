use Rattle.eqc_pair.specs.declared.refused.Side.TheVariants as side
use Rattle.eqc_case.specs.Sources.{given_of}
use Rattle.eqc_case.proofs.ReportsLaws.{reported, stop_alike, flat_models, second_fault}
use Rattle.eqc_case.proofs.ReportsLaws.{refused_stop}
use Rattle.eqc_case.proofs.LeftLaws.{told_weaker, refused_tells, flats_found}
use Rattle.eqc_check.proofs.decide.Decision.flatten_second.Goals as goal

pub returns-in-Err-clause-report : goal.returns-in-Err-clause-report
returns-in-Err-clause-report g c m accepted flat =
    second_fault m (c.args.second.0.now, c.args.second.1) (given_of c.args.self.now.case.now)
    c.in-Err.field-0.code c.refused.result accepted c.refused.ensures (rw c.limit.ensures at
    c.in-Err.ensures.refused)

pub returns-in-Err-clause-stop : goal.returns-in-Err-clause-stop
returns-in-Err-clause-stop g c m accepted flat = refused_stop side.Second (record {
  line = 0;
  code =
      c.in-Err.field-0.code;
}) c.refused.result _ c.refused.ensures

pub returns-in-Ok-clause-report : goal.returns-in-Ok-clause-report
returns-in-Ok-clause-report g c m accepted flat =
    reported c.match_flats.result _ _ c.match_flats.ensures.report
    (flat_models c.args.first.now c.in-Ok.g m (c.args.second.0.now, c.args.second.1)
    (given_of c.args.self.now.case.now)
    c.recall_laws.ensures.lawful c.recall_laws-in-Ok.ensures.lawful accepted (rw c.limit.ensures at
    c.in-Ok.ensures.accepted) flat c.in-Ok.ensures.flat)

pub returns-in-Ok-clause-stop : goal.returns-in-Ok-clause-stop
returns-in-Ok-clause-stop g c m accepted flat =
    stop_alike c.match_flats.result _ _ c.match_flats.ensures.stop
    (flat_models c.args.first.now c.in-Ok.g m (c.args.second.0.now, c.args.second.1)
    (given_of c.args.self.now.case.now)
    c.recall_laws.ensures.lawful c.recall_laws-in-Ok.ensures.lawful accepted (rw c.limit.ensures at
    c.in-Ok.ensures.accepted) flat c.in-Ok.ensures.flat)

pub returns-in-Err-clause-left : goal.returns-in-Err-clause-left
returns-in-Err-clause-left g c m flat = refused_tells _ side.Second (record {
  line = 0;
  code =
      c.in-Err.field-0.code;
}) c.refused.result _ c.refused.ensures

pub returns-in-Ok-clause-left : goal.returns-in-Ok-clause-left
returns-in-Ok-clause-left g c m flat =
    told_weaker _ _ c.match_flats.result _ _
    (λ p. flats_found (given_of c.args.self.now.case.now) c.args.first.now c.in-Ok.g m
    (c.args.second.0.now, c.args.second.1) p flat c.in-Ok.ensures.flat)
    c.match_flats.ensures.left

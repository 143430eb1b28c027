use Rattle.eqc_pair.specs.declared.refused.Side.TheVariants as side
use Rattle.eqc_case.specs.Answer.{MainOf}
use Rattle.eqc_case.specs.Sources.{given_of}
use Rattle.eqc_case.proofs.ReportsLaws.{reported, stop_alike, flat_models, first_fault}
use Rattle.eqc_case.proofs.ReportsLaws.{second_fault, refused_stop}
use Rattle.eqc_case.proofs.LeftLaws.{told_weaker, refused_tells, flats_found}
use Rattle.eqc_check.proofs.decide.Decision.flatten_both.Goals as goal

pub returns-in-Ok-clause-report : goal.returns-in-Ok-clause-report
returns-in-Ok-clause-report g c =
    let m : MainOf = (c.args.library.now, c.args.m) in
    let n : MainOf = (c.args.library.now, c.args.n) in
    reported c.match_flats.result _ _ c.match_flats.ensures.report
    (flat_models c.in-Ok.f c.in-Ok.g m n (given_of c.args.self.now.case.now)
    c.recall_laws.ensures.lawful c.recall_laws-in-Ok.ensures.lawful (rw c.limit.ensures at
    c.in-Ok.ensures.first.0) (rw c.limit.ensures at c.in-Ok.ensures.second.0)
    c.in-Ok.ensures.first.1 c.in-Ok.ensures.second.1)

pub returns-in-Ok-clause-stop : goal.returns-in-Ok-clause-stop
returns-in-Ok-clause-stop g c =
    let m : MainOf = (c.args.library.now, c.args.m) in
    let n : MainOf = (c.args.library.now, c.args.n) in
    stop_alike c.match_flats.result _ _ c.match_flats.ensures.stop
    (flat_models c.in-Ok.f c.in-Ok.g m n (given_of c.args.self.now.case.now)
    c.recall_laws.ensures.lawful c.recall_laws-in-Ok.ensures.lawful (rw c.limit.ensures at
    c.in-Ok.ensures.first.0) (rw c.limit.ensures at c.in-Ok.ensures.second.0)
    c.in-Ok.ensures.first.1 c.in-Ok.ensures.second.1)

pub returns-in-Err-First-clause-report : goal.returns-in-Err-First-clause-report
returns-in-Err-First-clause-report g c =
    first_fault (c.args.library.now, c.args.m) (c.args.library.now, c.args.n)
    (given_of c.args.self.now.case.now)
    c.in-Err-First.field-0-0.code c.refused.result c.refused.ensures (rw (
      c.in-Err-First.field-0-is,
      c.limit.ensures,
    ) at c.in-Err-First.ensures.refused)

pub returns-in-Err-First-clause-stop : goal.returns-in-Err-First-clause-stop
returns-in-Err-First-clause-stop g c = refused_stop side.First (record {
  line = 0;
  code =
      c.in-Err-First.field-0-0.code;
}) c.refused.result _ c.refused.ensures

pub returns-in-Err-Second-clause-report : goal.returns-in-Err-Second-clause-report
returns-in-Err-Second-clause-report g c =
    let fault = rw (c.in-Err-Second.field-0-is, c.limit.ensures) at c.in-Err-Second.ensures.refused
    in
    second_fault (c.args.library.now, c.args.m) (c.args.library.now, c.args.n)
    (given_of c.args.self.now.case.now)
    c.in-Err-Second.field-0-0.code c.refused-in-Err-Second.result fault.0
    c.refused-in-Err-Second.ensures fault.1

pub returns-in-Err-Second-clause-stop : goal.returns-in-Err-Second-clause-stop
returns-in-Err-Second-clause-stop g c = refused_stop side.Second (record {
  line = 0;
  code =
      c.in-Err-Second.field-0-0.code;
}) c.refused-in-Err-Second.result _
    c.refused-in-Err-Second.ensures

pub returns-in-Ok-clause-left : goal.returns-in-Ok-clause-left
returns-in-Ok-clause-left g c =
    told_weaker _ _ c.match_flats.result _ _
    (λ p. flats_found (given_of c.args.self.now.case.now) c.in-Ok.f c.in-Ok.g (
      c.args.library.now,
      c.args.m,
    ) (c.args.library.now, c.args.n) p c.in-Ok.ensures.first.1 c.in-Ok.ensures.second.1)
    c.match_flats.ensures.left

pub returns-in-Err-First-clause-left : goal.returns-in-Err-First-clause-left
returns-in-Err-First-clause-left g c = refused_tells _ side.First (record {
  line = 0;
  code =
      c.in-Err-First.field-0-0.code;
}) c.refused.result _ c.refused.ensures

pub returns-in-Err-Second-clause-left : goal.returns-in-Err-Second-clause-left
returns-in-Err-Second-clause-left g c = refused_tells _ side.Second (record {
  line = 0;
  code =
      c.in-Err-Second.field-0-0.code;
}) c.refused-in-Err-Second.result _
    c.refused-in-Err-Second.ensures

use Rattle.std.proofs.Common.{◌≡◌, ◌∙◌, ap, Some, IfOk}
use Rattle.eqc_pair.specs.PairOf.{PairOf}
use Rattle.eqc_report.specs.PairReport.{pair_report}
use Rattle.eqc_report.specs.ReportView.{report_of}
use Rattle.eqc_compare.specs.Comparing.{netlist_of}
use Rattle.eqc_case.specs.Sources.{given_of}
use Rattle.eqc_case.proofs.ReportsLaws.{reported, stop_alike, pair_compared, compared_stop}
use Rattle.eqc_case.proofs.ReportsLaws.{assumption_taken}
use Rattle.eqc_case.specs.Left.{was_compared}
use Rattle.eqc_case.proofs.LeftLaws.{refused_tells}
use Rattle.eqc_check.proofs.decide.Decision.match_assumption.Goals as goal

pub returns-in-Ok-clause-report : goal.returns-in-Ok-clause-report
returns-in-Ok-clause-report g c =
    let given = given_of c.args.self.now.case.now in
    let p = c.in-Ok.pair in
    let is = c.in-Ok.ensures.pair in
    let compares : IfOk c.compare.result (λ report. report_of report
    ≡ pair_report given.options.every c.in-Ok.pair) = c.compare.ensures.report in
    reported c.compare.result _ _ compares
    (pair_compared given p c.args.pair.first c.args.pair.second (Some c.args.assumed.now)
    (ap (λ (x : PairOf). x.first) is)
    (ap (λ (x : PairOf). x.second) is) (ap (λ (x : PairOf). x.assumes) is)
    (ap (λ (x : PairOf). x.chosen) is ∙ c.requires.outputs)
    ∙ assumption_taken given c.args.pair.first c.args.pair.second c.args.assumed.now
    c.in-Ok.ensures.taken)

pub returns-in-Ok-clause-stop : goal.returns-in-Ok-clause-stop
returns-in-Ok-clause-stop g c =
    let given = given_of c.args.self.now.case.now in
    stop_alike c.compare.result _ _ (compared_stop given (netlist_of c.args.pair.first)
    (netlist_of c.args.pair.second) (Some (netlist_of c.args.assumed.now)) c.compare.result)
    (assumption_taken given c.args.pair.first c.args.pair.second c.args.assumed.now
    c.in-Ok.ensures.taken)

pub returns-in-Ok-clause-left : goal.returns-in-Ok-clause-left
returns-in-Ok-clause-left g c = was_compared c.in-Ok.pair c.in-Ok.ensures.pair
    c.compare.ensures.left

pub returns-in-Err-clause-left : goal.returns-in-Err-clause-left
returns-in-Err-clause-left g c = refused_tells _ c.in-Err.refusal.side (record {
  line =
      c.in-Err.refusal.line;
  code = c.in-Err.refusal.code;
}) c.refused.result _ c.refused.ensures

use Rattle.std.proofs.Common.{◌≡◌, ◌∙◌, inr, sym, ap, subst, None}
use Rattle.eqc_case.specs.Answer.{IsComparison}
use Rattle.eqc_case.specs.Left.{IsNoneTold}
use Rattle.eqc_case.specs.Sources.{given_of}
use Rattle.eqc_report.specs.Options.{options_code}
use Rattle.eqc_report.proofs.OptionsLemmas.{bytes_in_range}
use Rattle.eqc_report.specs.ReportView.{report_of}
use Rattle.eqc_report.specs.declared.report.Report.{Report}
use Rattle.eqc_case.proofs.RunLaws.{memory_reports, read_reports, read_warns}
use Rattle.eqc_case.proofs.TellingLaws.{told_or_stopped, warned_or_stopped}
use Rattle.eqc_case.proofs.LeftLaws.{told_beside}
use Rattle.eqc_check.proofs.running.report_for.Goals as goal

pub returns-in-Err : goal.returns-in-Err
returns-in-Err g c =
    let within : options_code c.args.given.options ≡ None = sym c.options_fault.ensures
    ∙ c.in-None.is in
    record {
      report = rw (within, c.alone-in-Err.ensures.report) (memory_reports g.R.Read.remaining
          c.args.given);
      warned = λ compares. absurd (subst (λ (r : Report). IsComparison (report_of r))
          c.alone-in-Err.ensures.report compares);
      read = tt;
      side = tt;
      kept = rw c.alone-in-Err.ensures.case (record {
        reason = inr c.alone-in-Err.ensures.report;
        told = c.alone-in-Err.ensures.left;
      });
    }

pub decide-requires-clause-options : goal.decide-requires-clause-options
decide-requires-clause-options g c κs lent =
    let within : options_code c.args.given.options ≡ None = sym c.options_fault.ensures
    ∙ c.in-None.is in
    let read = rw c.in-Ok.is at (c.read_given.ensures.read (bytes_in_range c.args.given.options
    within)) in
    ap options_code read.options ∙ within

pub returns-clause-report : goal.returns-clause-report
returns-clause-report g c =
    let within : options_code c.args.given.options ≡ None = sym c.options_fault.ensures
    ∙ c.in-None.is in
    let read = rw c.in-Ok.is at (c.read_given.ensures.read (bytes_in_range c.args.given.options
    within)) in
    rw within
    (read_reports g.R.Read.remaining c.args.given c.in-Ok.case _ read
    (told_or_stopped (given_of c.in-Ok.case) c.decide.result c.of-told.result c.decide.ensures.tells
    c.of-told.ensures.told c.of-told.ensures.stop))

pub returns-clause-warned : goal.returns-clause-warned
returns-clause-warned g c =
    let within : options_code c.args.given.options ≡ None = sym c.options_fault.ensures
    ∙ c.in-None.is in
    let read = rw c.in-Ok.is at (c.read_given.ensures.read (bytes_in_range c.args.given.options
    within)) in
    read_warns g.R.Read.remaining c.args.given c.in-Ok.case _ _ read
    (warned_or_stopped (given_of c.in-Ok.case) c.decide.result c.of-told.result
    c.decide.ensures.tells c.of-told.ensures.told c.of-told.ensures.stop)

pub returns-clause-kept : goal.returns-clause-kept
returns-clause-kept g c =
    let within : options_code c.args.given.options ≡ None = sym c.options_fault.ensures
    ∙ c.in-None.is in
    let given = given_of c.in-Ok.case in
    let first : IsNoneTold c.none-left.result = record {
      count = c.none-left.ensures.count;
      seen =
          c.none-left.ensures.seen;
    } in
    record {
      options = within;
      read = rw c.in-Ok.is at (c.read_given.ensures.read (bytes_in_range c.args.given.options
          within));
      answers = told_or_stopped given c.decide.result c.of-told.result c.decide.ensures.tells
          c.of-told.ensures.told c.of-told.ensures.stop;
      told = told_beside given c.decide.result c.of-told.result c.none-left.result c.decide.new.left
          first c.decide.ensures.tells c.decide.ensures.left c.of-told.ensures.told
          c.of-told.ensures.stop;
    }

use Rattle.std.proofs.Common.{ap₂}
use Rattle.eqc_pair.specs.PairOf.{PairOf}
use Rattle.eqc_report.specs.declared.options.Options.{Options}
use Rattle.eqc_report.specs.PairReport.{pair_report}
use Rattle.eqc_case.proofs.ReportsLaws.{reported}
use Rattle.eqc_case.proofs.LeftLaws.{stopped_left}
use Rattle.eqc_check.proofs.decide.Decision.compare.Goals as goal

pub returns-clause-report : goal.returns-clause-report
returns-clause-report g c =
    reported c.decide_pair.result _ _ c.decide_pair.ensures.report
    (ap₂ (λ (o : Options) (x : PairOf). pair_report o.every x) c.comparison-asked.ensures.options
    c.comparison-asked.ensures.pair)

pub returns-clause-left : goal.returns-clause-left
returns-clause-left g c =
    let same = c.comparison-asked.ensures.pair in
    record {
      seen = rw same at c.decide_pair.ensures.seen;
      kept = c.decide_pair.ensures.told;
      left = stopped_left c.args.pair.now c.comparison-asked.result.pair.now c.decide_pair.result
          c.decide_pair.new.alike c.args.left.now c.decide_pair.new.left same
          c.decide_pair.ensures.known c.decide_pair.ensures.left;
    }

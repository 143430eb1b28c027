use Rattle.std.proofs.Common.{arith}
use Rattle.eqc_report.specs.Report.{block}
use Rattle.eqc_report.specs.ReportView.{difference_of}
use Rattle.eqc_report.proofs.SpoolLemmas.{puts_all, puts_more}
use Rattle.eqc_report.proofs.report.text.put_each.Goals as goal

pub loop-difference-preserved : goal.loop-difference-preserved
loop-difference-preserved g c =
    puts_more (g.W.Write.contents c.args.out.now) (g.W.Write.contents c.loop-difference.out)
    (g.W.Write.contents c.put_difference.new.out)
    c.args.spool.now c.loop-difference.spool c.put_difference.new.spool
    (λ d. block (difference_of c.args.inputs.now d)) c.args.differences.now
    c.loop-difference.difference-index c.difference-item.result
    c.loop-difference-test.true c.difference-item.is c.loop-difference.invariant
    c.put_difference.ensures

pub returns : goal.returns
returns g c =
    puts_all (g.W.Write.contents c.args.out.now) (g.W.Write.contents c.loop-difference.out)
    c.args.spool.now c.loop-difference.spool
    (λ d. block (difference_of c.args.inputs.now d)) c.args.differences.now
    c.loop-difference.difference-index (omega arith) c.loop-difference.invariant

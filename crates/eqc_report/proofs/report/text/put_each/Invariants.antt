use Rattle.std.proofs.Common.{take}
use Rattle.std.specs.List.{flat_map}
use Rattle.eqc_report.specs.Report.{block}
use Rattle.eqc_report.specs.ReportView.{difference_of}
use Rattle.eqc_report.specs.Spooling.{Puts}
use Rattle.eqc_report.proofs.report.text.put_each.Given as goal

abbrev pub invariant-loop-difference : goal.invariant-loop-difference
invariant-loop-difference g l =
    Puts (g.W.Write.contents l.fn.out) (g.W.Write.contents l.out) l.fn.spool l.spool
    (flat_map (λ d. block (difference_of l.inputs d)) (take l.difference-index l.differences))

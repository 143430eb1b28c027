use Rattle.std.proofs.Common.{take}
use Rattle.std.specs.List.{flat_map, zip}
use Rattle.eqc_report.specs.Report.{value_line}
use Rattle.eqc_report.specs.Spooling.{Puts}
use Rattle.eqc_report.proofs.report.text.put_values.Given as goal

abbrev pub invariant-loop-k : goal.invariant-loop-k
invariant-loop-k g l = Puts (g.W.Write.contents l.fn.out) (g.W.Write.contents l.out) l.fn.spool
    l.spool (flat_map value_line (take l.k (zip l.inputs l.values)))

use Rattle.std.proofs.Common.{◌≡◌, map}
use Rattle.std.specs.List.{All}
use Rattle.eqc_report.specs.ReportView.{difference_of}
use Rattle.eqc_report.specs.PairReport.{shown_of, IsFoundOf}
use Rattle.eqc_report.proofs.found.all_shown.Given as goal

abbrev pub invariant-loop-output : goal.invariant-loop-output
invariant-loop-output l = record {
  shown : map (difference_of l.pair.first.inputs) l.each.items ≡ map (shown_of l.pair) l.yielded;
  left : All (IsFoundOf l.pair) l.output-iterator.rest.items;
}

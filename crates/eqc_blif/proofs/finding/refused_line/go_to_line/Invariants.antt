use Rattle.std.proofs.Common.{◌≡◌, Some, length}
use Rattle.eqc_blif.specs.Lines.{logical, logical_lines}
use Rattle.eqc_blif.specs.Reading.{first_fault, start}
use Rattle.eqc_blif.specs.Finding.{line_at}
use Rattle.eqc_blif.proofs.finding.refused_line.go_to_line.Given as goal

abbrev pub invariant-lines : goal.invariant-lines
invariant-lines l = record {
  fault : first_fault l.reader (logical l.lines) ≡ Some (l.refusal.line, l.refusal.code);
  there : line_at l.refusal.line l.reader (logical l.lines) ≡ line_at l.refusal.line start
      (logical_lines l.text);
}

abbrev pub decreases-lines : goal.decreases-lines
decreases-lines l = length (logical l.lines)

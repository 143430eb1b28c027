use Rattle.std.proofs.Common.{◌≡◌, length}
use Rattle.eqc_blif.specs.Lines.{logical, logical_lines}
use Rattle.eqc_blif.specs.Reading.{after, first_fault}
use Rattle.eqc_blif.proofs.reading.take_lines.Given as goal

abbrev pub invariant-lines : goal.invariant-lines
invariant-lines l = record {
  fault : first_fault l.reader (logical l.lines) ≡ first_fault l.fn.reader (logical_lines l.text);
  library : after l.reader (logical l.lines) ≡ after l.fn.reader (logical_lines l.text);
}

abbrev pub decreases-lines : goal.decreases-lines
decreases-lines l = length (logical l.lines)

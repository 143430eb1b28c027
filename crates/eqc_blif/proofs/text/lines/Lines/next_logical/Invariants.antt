use Rattle.std.proofs.Common.{◌≡◌, length}
use Rattle.eqc_blif.specs.Lines.{logical}
use Rattle.eqc_blif.proofs.text.lines.Lines.next_logical.Given as goal

abbrev pub invariant-lines : goal.invariant-lines
invariant-lines l = logical l.self ≡ logical l.fn.self

abbrev pub decreases-lines : goal.decreases-lines
decreases-lines l = length l.self

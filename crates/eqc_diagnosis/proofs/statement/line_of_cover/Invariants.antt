use Rattle.std.proofs.Common.{◌≤◌, length}
use Rattle.eqc_diagnosis.proofs.statement.line_of_cover.Given as goal

abbrev pub invariant-lines : goal.invariant-lines
invariant-lines l = length l.rest ≤ length l.text

abbrev pub decreases-lines : goal.decreases-lines
decreases-lines l = length l.rest

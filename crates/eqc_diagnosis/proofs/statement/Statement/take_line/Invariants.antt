use Rattle.std.proofs.Common.{◌≤◌, length}
use Rattle.eqc_diagnosis.proofs.statement.Statement.take_line.Given as goal

abbrev pub invariant-words : goal.invariant-words
invariant-words l = length l.rest ≤ length l.line

abbrev pub decreases-words : goal.decreases-words
decreases-words l = length l.rest

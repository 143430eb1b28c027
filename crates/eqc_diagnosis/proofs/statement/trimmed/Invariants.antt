use Rattle.std.proofs.Common.{length}
use Rattle.eqc_diagnosis.proofs.statement.trimmed.Given as goal

abbrev pub decreases-blanks : goal.decreases-blanks
decreases-blanks l = length l.rest

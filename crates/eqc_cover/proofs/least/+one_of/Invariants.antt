use Rattle.std.proofs.Common.{length}
use Rattle.eqc_cover.proofs.least.+one_of.Given as goal

abbrev pub decreases-one_of : goal.decreases-one_of
decreases-one_of g l = length l.variables.now

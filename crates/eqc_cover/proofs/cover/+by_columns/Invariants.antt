use Rattle.std.proofs.Common.{length}
use Rattle.eqc_cover.proofs.cover.+by_columns.Given as goal

abbrev pub decreases-by_columns : goal.decreases-by_columns
decreases-by_columns g l = length l.columns.now

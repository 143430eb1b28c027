use Rattle.std.proofs.Common.{length}
use Rattle.eqc_cover.proofs.cover.+by_row.Given as goal

abbrev pub decreases-by_row : goal.decreases-by_row
decreases-by_row g l = length l.columns.now

use Rattle.std.proofs.Common.{length}
use Rattle.eqc_cover.proofs.cover.+by_rows.Given as goal

abbrev pub decreases-by_rows : goal.decreases-by_rows
decreases-by_rows g l = length l.rows.now

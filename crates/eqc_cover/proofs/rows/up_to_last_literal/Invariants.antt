use Rattle.std.proofs.Common.{length}
use Rattle.eqc_cover.specs.Matching.{RowsAlike}
use Rattle.eqc_cover.proofs.rows.up_to_last_literal.Given as goal

-- the places that are left say what the row says
abbrev pub invariant-places : goal.invariant-places
invariant-places l = RowsAlike l.columns l.places l.row

abbrev pub decreases-places : goal.decreases-places
decreases-places l = length l.places

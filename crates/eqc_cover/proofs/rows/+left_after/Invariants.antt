use Rattle.eqc_cover.proofs.rows.+left_after.Given as goal

abbrev pub decreases-left_after : goal.decreases-left_after
decreases-left_after l = l.columns

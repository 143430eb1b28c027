use Rattle.std.proofs.Common.{◌-◌}
use Rattle.eqc_cover.proofs.splits.+expand.Given as goal

abbrev pub decreases-expand : goal.decreases-expand
decreases-expand l = l.columns - l.column

use Rattle.std.specs.List.{count_by}
use Rattle.eqc_cover.proofs.expansion.+by_table.Given as goal

abbrev pub decreases-by_table : goal.decreases-by_table
decreases-by_table g l = count_by (λ is_open. is_open) l.open_columns

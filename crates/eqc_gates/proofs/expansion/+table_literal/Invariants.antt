use Rattle.std.specs.List.{count_by}
use Rattle.eqc_gates.proofs.expansion.+table_literal.Given as goal

abbrev pub decreases-table_literal : goal.decreases-table_literal
decreases-table_literal l = count_by (λ is_open. is_open) l.open_columns

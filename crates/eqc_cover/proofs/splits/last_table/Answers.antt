use Rattle.std.proofs.Common.{map, arith}
use Rattle.eqc_cover.proofs.SplitsLaws.{off_table}
use Rattle.eqc_cover.proofs.splits.last_table.Goals as goal

pub returns-else-on : goal.returns-else-on
returns-else-on c = off_table c.matching_table-matched.result c.args.on
    (map (λ r. r.now) c.args.rows.now) (omega arith) c.matching_table-matched.ensures c.if-on.false

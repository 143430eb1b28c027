use Rattle.std.proofs.Common.{arith}
use Rattle.eqc_cover.proofs.SplitLaws.{all_true, opposite_true, none_stays, opposite_stays}
use Rattle.eqc_cover.proofs.split.where_true.Goals as goal

pub returns-then-table-eq18446744073709551615-clause-value :
    goal.returns-then-table-eq18446744073709551615-clause-value
returns-then-table-eq18446744073709551615-clause-value c = λ x vs few. all_true c.args.table x vs
    c.if-table-eq18446744073709551615.true few

pub returns-then-table-eq18446744073709551615-clause-open :
    goal.returns-then-table-eq18446744073709551615-clause-open
returns-then-table-eq18446744073709551615-clause-open c = none_stays c.args.table c.args.table

pub returns-clause-value : goal.returns-clause-value
returns-clause-value c = λ x vs few. opposite_true c.args.table x vs (omega arith) few

pub returns-clause-open : goal.returns-clause-open
returns-clause-open c = opposite_stays c.args.table (omega arith)

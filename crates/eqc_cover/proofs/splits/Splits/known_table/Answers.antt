use Rattle.std.proofs.Common.{sym, ◌∙◌, arith}
use Rattle.eqc_cover.proofs.SplitsLaws.{table_there}
use Rattle.eqc_cover.proofs.splits.Splits.known_table.Goals as goal

pub returns : goal.returns
returns c = λ n. table_there c.args.self.now.list.items c.in_ok-place.field-0.now c.args.table n
    c.index.result.now (omega arith) (sym c.index.ensures
    ∙ c.is_table.ensures c.if-not-is_table.false)

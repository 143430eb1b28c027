use Rattle.std.proofs.Common.{sym, ◌∙◌}
use Rattle.eqc_cover.proofs.TableLaws.{table-zero, table-ones}
use Rattle.eqc_cover.proofs.splits.everywhere.Goals as goal

pub returns-then-value : goal.returns-then-value
returns-then-value c = λ vs few. table-ones vs few ∙ sym c.if-value.true

pub returns-else-value : goal.returns-else-value
returns-else-value c = λ vs few. table-zero vs ∙ sym c.if-value.false

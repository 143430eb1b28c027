use Rattle.eqc_cover.proofs.TableLaws.{columns_are}
use Rattle.eqc_cover.proofs.table.column_table.Goals as goal

pub returns : goal.returns
returns c = columns_are c.args.j c.requires

use Rattle.std.proofs.Common.{arith}
use Rattle.eqc_cover.proofs.TableLaws.{few_places, places_of, low_cofactor, high_cofactor}
use Rattle.eqc_cover.proofs.table.cofactor.Goals as goal

pub overflow_shr-half : goal.overflow_shr-half
overflow_shr-half c = few_places c.args.j c.requires

pub overflow_shl-result : goal.overflow_shl-result
overflow_shl-result c = few_places c.args.j c.requires

pub overflow_shl-result-2 : goal.overflow_shl-result-2
overflow_shl-result-2 c = few_places c.args.j c.requires

pub returns-then-value : goal.returns-then-value
returns-then-value c = high_cofactor c.args.table c.column_table-others.result c.args.j _
    c.args.value c.column_table-others.ensures (omega arith) (places_of c.args.j c.requires)
    c.if-value.true

pub returns : goal.returns
returns c = low_cofactor c.args.table c.column_table-others.result c.args.j _ c.args.value
    c.column_table-others.ensures (omega arith) (places_of c.args.j c.requires) c.if-value.false

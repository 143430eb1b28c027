use Rattle.std.proofs.Common.{sym, subst}
use Rattle.eqc_strash.specs.Tables.{structures_of, IsClassTable}
use Rattle.eqc_strash.proofs.ShapeLaws.{no_classes}
use Rattle.eqc_strash.proofs.class_table.ClassTable.new.Goals as goal

pub invariant_of-result : goal.invariant_of-result
invariant_of-result c = subst (λ l. IsClassTable c.args.rows.now l (structures_of c.args.rows.now
    l)) (sym c.in_ok-shapes.ensures.empty) (no_classes c.args.rows.now c.recall_apart.ensures)

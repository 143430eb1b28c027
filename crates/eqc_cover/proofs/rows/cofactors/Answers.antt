use Rattle.std.proofs.Common.{true, false, arith, ◌∙◌}
use Rattle.eqc_cover.proofs.MatchingLaws.{cofactor_more}
use Rattle.eqc_cover.proofs.RowLaws.{constrains_more, constrains_still, asks_now}
use Rattle.eqc_cover.proofs.rows.cofactors.Goals as goal
use Rattle.eqc_cover.proofs.rows.cofactors.Goals.{then-differ, else-differ}

pub loop-row-preserved : goal.loop-row-preserved
loop-row-preserved c = record {
  when_true = cofactor_more true c.loop-row.row-index c.args.rows.now _ _ _ (omega arith)
      c.loop-row.invariant.when_true c.in_ok-keep.ensures;
  when_false = cofactor_more false c.loop-row.row-index c.args.rows.now _ _ _ (omega arith)
      c.loop-row.invariant.when_false c.in_ok-keep-2.ensures;
  differ = elim c.if-differ.branch [
    | then-differ w ↦
        constrains_still c.loop-row.row-index c.args.rows.now c.loop-row.differ c.if-differ.differ
        (omega arith)
        c.loop-row.invariant.differ w.if-differ.true (w.differ-is ∙ w.if-differ.true)
    | else-differ w ↦
        constrains_more c.loop-row.row-index c.args.rows.now _ c.loop-row.differ c.if-differ.differ
        (omega arith)
        c.loop-row.invariant.differ
        (asks_now c.loop-row.differ c.if-differ.differ w.constrains-differ.result _
        w.if-differ.false w.differ-is
        w.constrains-differ.ensures)
  ];
}

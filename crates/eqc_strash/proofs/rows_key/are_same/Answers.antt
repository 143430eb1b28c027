use Rattle.std.proofs.Common.{◌∙◌, [], ap, arith, get_or, sym}
use Rattle.eqc_strash.proofs.RowsLaws.{rows_differ, rows_same, row_apart, rows_more}
use Rattle.eqc_strash.proofs.rows_key.are_same.Goals as goal

pub returns-then-ne : goal.returns-then-ne
returns-then-ne c =
    sym (rows_differ c.args.rows.now c.args.others.now
    (λ same.
    row_apart c.get.result.now c.get-in-loop-k.result.now c.if-ne.ensures
    (c.get.ensures ∙ (ap (λ l. get_or l c.loop-k.k []) same ∙ sym c.get-in-loop-k.ensures))))

pub loop-k-preserved : goal.loop-k-preserved
loop-k-preserved c = rows_more c.args.rows.now c.args.others.now c.loop-k.k c.get.result.now
    c.get-in-loop-k.result.now c.loop-k.invariant c.get.ensures c.get-in-loop-k.ensures
    c.if-ne.ensures

pub returns : goal.returns
returns c =
    sym (rows_same c.args.rows.now c.args.others.now (omega (
      arith,
      c.if-len.false,
      c.len.ensures,
      c.len-2.ensures,
    ))
    (λ j less. c.loop-k.invariant j (omega (
      arith,
      less,
      c.len-k-end.ensures,
      c.loop-k-test.false,
    ))))

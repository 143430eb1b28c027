use Rattle.std.proofs.Common.{◌<◌, [], ap, sym, ◌∙◌, arith, length}
use Rattle.std.proofs.lemmas.List.{length-map}
use Rattle.eqc_cover.proofs.SplitsLaws.{alike_more, row_at}
use Rattle.eqc_cover.proofs.covers.SplitCover.is_of.Goals as goal

pub loop-k-preserved : goal.loop-k-preserved
loop-k-preserved c =
    let rows = sym (ap (λ v. v.rows) c.self.view_is) in
    let within : c.loop-k.k < length c.self.inside.rows.items = omega arith in
    alike_more c.args.self.now.rows c.args.rows.now c.loop-k.k [] [] (omega (
      arith,
      within,
      ap length rows,
      length-map c.self.inside.rows.items (λ r. r.items),
    )) (omega arith)
    c.loop-k.invariant
    (row_at (λ r. r.items) c.self.inside.rows.items c.args.self.now.rows c.args.rows.now c.loop-k.k
    c.index.result.now c.get.result.now rows within c.index.ensures
    (sym c.deref.ensures.value ∙ c.is_row.ensures c.if-not-is_row.false) c.get.ensures)

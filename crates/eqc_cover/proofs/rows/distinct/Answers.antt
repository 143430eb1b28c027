use Rattle.std.proofs.Common.{List, ℕ, [], ◌∷◌, ◌++◌, sym, ◌∙◌, ap, arith, Bor}
use Rattle.std.specs.List.{list_any}
use Rattle.std.specs.Str.{bytes_eq}
use Rattle.eqc_cover.proofs.RowLaws.{distinct_more, distinct_stays, set_grows, set_has}
use Rattle.eqc_cover.proofs.rows.distinct.Goals as goal
use Rattle.eqc_cover.proofs.rows.distinct.Goals.{then-branch+in_ok-push, else-branch}

pub rows-preserved : goal.rows-preserved
rows-preserved c = elim c.if-branch.branch [
  | then-branch+in_ok-push w ↦
      let kept = ap (λ v. v.items) w.kept-is ∙ w.in_ok-push.ensures.items in
      let keys = set_grows c.rows.seen.keys c.insert.new.self.keys c.up_to_last_literal-row.result _
      c.in_ok-insert.ensures.added w.if-branch.true c.in_ok-insert.ensures.keys in record {
        kept =
            distinct_more c.args.columns c.rows.kept.items c.if-branch.kept.items c.args.rows.now
            c.rows.k []
            c.up_to_last_literal-row.result (omega (arith, c.rows-test.true, c.len-k-end.ensures))
            (rw c.get.ensures at c.up_to_last_literal-row.ensures) c.rows.invariant.kept kept;
        seen = keys ∙ (ap (λ xs. xs ++ c.up_to_last_literal-row.result ∷ []) c.rows.invariant.seen
            ∙ sym kept);
      }
  | else-branch w ↦
      let kept = ap (λ v. v.items) w.kept-is in
      let keys = set_has c.rows.seen.keys c.insert.new.self.keys c.up_to_last_literal-row.result _
      c.in_ok-insert.ensures.added w.if-branch.false c.in_ok-insert.ensures.keys in
      let stays =
      distinct_stays c.args.columns c.rows.kept.items c.args.rows.now c.rows.k []
      c.up_to_last_literal-row.result
      (omega (arith, c.rows-test.true, c.len-k-end.ensures))
      (rw c.get.ensures at c.up_to_last_literal-row.ensures)
      c.rows.invariant.kept
      (ap (λ xs. list_any (λ (key : Bor (List ℕ)). bytes_eq c.up_to_last_literal-row.result.now
      key.now) xs)
      (sym c.rows.invariant.seen)
      ∙ keys.0) in
      record {
        kept = rw kept stays;
        seen = keys.1 ∙ (c.rows.invariant.seen ∙ sym kept);
      }
]

use Rattle.std.proofs.Common.{refl, sym, ◌∙◌, arith, inl, inr}
use Rattle.std.proofs.lemmas.Bool.{cases_lt}
use Rattle.eqc_cover.proofs.RowLaws.{cut_alike, last_alike}
use Rattle.eqc_cover.proofs.rows.up_to_last_literal.Goals as goal

pub places-init : goal.places-init
places-init c = cut_alike c.args.columns c.min.result c.args.row.now _
    (elim (cases_lt c.min.result c.args.columns) [
      | inl less ↦ inr (omega (arith, c.min.ensures))
      | inr most ↦ inl (omega arith)
    ]) refl

pub places-preserved : goal.places-preserved
places-preserved c =
    last_alike c.args.columns c.places.places.now c.in-Some.front.now c.args.row.now
    c.in-Some.byte.now
    (sym c.is_literal.ensures ∙ c.if-is_literal.false) c.in-Some.ensures.cases.0 c.places.invariant

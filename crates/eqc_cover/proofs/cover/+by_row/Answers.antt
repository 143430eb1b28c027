use Rattle.std.proofs.Common.{rules, true, ◌&&◌, sym, ◌∙◌}
use Rattle.eqc_cover.specs.Matching.{said, AreHeld}
use Rattle.eqc_cover.proofs.HeldLaws.{held_take, held_drop}
use Rattle.eqc_cover.proofs.MatchingLaws.{row_matches-empty, no_columns_match, alone, one_said}
use Rattle.eqc_cover.proofs.MatchingLaws.{by_halves, by_short}
use Rattle.eqc_cover.proofs.MakingLaws.{reference_makes, makes_as, makes_held, first_held}
use Rattle.eqc_cover.proofs.MakingLaws.{turns_owned, joined_makes}
use Rattle.eqc_cover.proofs.cover.+by_row.Goals as goal

pub returns-then-is_empty : goal.returns-then-is_empty
returns-then-is_empty g t c =
    reference_makes g.D.References.entry _ _ c.constant.result (λ _. true) _
    (λ a.
    row_matches-empty c.args.row.now (said g.D.References.entry c.args.columns.now a)
    (sym c.is_empty.ensures ∙ c.if-is_empty.true))
    c.constant.ensures.ok c.constant.ensures.stop c.constant.ensures.only

pub returns-in-empty : goal.returns-in-empty
returns-in-empty g t c =
    reference_makes g.D.References.entry _ _ c.constant-in-empty.result (λ _. true) _
    (λ a. no_columns_match g.D.References.entry c.args.row.now c.args.columns.now a
    c.in-empty.len_below) c.constant-in-empty.ensures.ok
    c.constant-in-empty.ensures.stop c.constant-in-empty.ensures.only

pub by_byte-requires : goal.by_byte-requires
by_byte-requires g t c =
    first_held g.D.References.entry _ c.column-item.result c.args.columns.now _
    (alone c.args.columns.now c.column-item.result c.in-len1.len_at_least c.in-len1.len_below
    c.column-item.is) c.requires

pub returns-in-len1 : goal.returns-in-len1
returns-in-len1 g t c =
    makes_as g.D.References.entry _ _ c.by_byte.result _ _
    (λ a.
    one_said g.D.References.entry c.args.row.now c.column-item.result c.args.columns.now a
    (sym c.is_empty.ensures ∙ c.if-is_empty.false)
    (alone c.args.columns.now c.column-item.result c.in-len1.len_at_least c.in-len1.len_below
    c.column-item.is))
    c.by_byte.ensures

pub returns-then-row-middle : goal.returns-then-row-middle
returns-then-row-middle g t c =
    makes_as g.D.References.entry _ _ c.by_row.result _ _
    (λ a.
    by_short g.D.References.entry _ c.args.row.now c.args.columns.now c.split_at.result.0.now a
    c.split_at.ensures.front
    c.if-row-middle.true) c.by_row.ensures

pub by_row-back-requires : goal.by_row-back-requires
by_row-back-requires g t c =
    let h : AreHeld g.D.References.entry (g.D.References.holding c.by_row-2.new.d)
    c.split_at.result.1.now =
    rw c.split_at.ensures.back
    (makes_held g.D.References.entry _ _ _ _ _ c.in_ok-front.ensures
    (held_drop g.D.References.entry _ _ c.args.columns.now c.requires)) in
    search rules

pub joined-requires : goal.joined-requires
joined-requires g t c = turns_owned g.D.References.entry _ _ _ _ c.by_row-back.result _ _
    c.in_ok-front.ensures c.by_row-back.ensures

pub returns : goal.returns
returns g t c =
    joined_makes g.D.References.entry _ _ _ _ _ c.by_row-back.result c.joined.result _ _ _
    (λ _ x y. x && y)
    (λ a.
    by_halves g.D.References.entry _ c.args.row.now _ _ c.args.columns.now _ _ a
    c.split_at.ensures.front c.split_at.ensures.back
    c.split_at-2.ensures.front c.split_at-2.ensures.back) c.in_ok-front.ensures
    c.by_row-back.ensures c.joined.ensures

pub by_row-requires : goal.by_row-requires
by_row-requires g t c =
    let h : AreHeld g.D.References.entry (g.D.References.holding c.args.d.now)
    c.split_at.result.0.now =
    rw c.split_at.ensures.front (held_take g.D.References.entry _ _ c.args.columns.now c.requires)
    in
    search rules

pub by_row-requires-2 : goal.by_row-requires-2
by_row-requires-2 g t c =
    let h : AreHeld g.D.References.entry (g.D.References.holding c.args.d.now)
    c.split_at.result.0.now =
    rw c.split_at.ensures.front (held_take g.D.References.entry _ _ c.args.columns.now c.requires)
    in
    search rules

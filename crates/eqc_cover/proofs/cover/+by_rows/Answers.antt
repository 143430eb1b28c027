use Rattle.std.proofs.Common.{rules, ◌||◌, false}
use Rattle.eqc_cover.specs.Matching.{said, AreHeld}
use Rattle.eqc_cover.proofs.MatchingLaws.{some_match-halves, no_rows_match, one_row_said}
use Rattle.eqc_cover.proofs.MakingLaws.{reference_makes, makes_as, makes_held, turns_owned}
use Rattle.eqc_cover.proofs.MakingLaws.{joined_makes}
use Rattle.eqc_cover.proofs.cover.+by_rows.Goals as goal

pub by_rows-back-requires : goal.by_rows-back-requires
by_rows-back-requires g t c =
    let h : AreHeld g.D.References.entry (g.D.References.holding c.by_rows.new.d)
    c.args.columns.now = makes_held g.D.References.entry _ _ _ _ _ c.in_ok-front.ensures
    c.requires in
    search rules

pub joined-requires : goal.joined-requires
joined-requires g t c = turns_owned g.D.References.entry _ _ _ _ c.by_rows-back.result _ _
    c.in_ok-front.ensures c.by_rows-back.ensures

pub returns : goal.returns
returns g t c =
    joined_makes g.D.References.entry _ _ _ _ _ c.by_rows-back.result c.joined.result _ _ _
    (λ _ x y. x || y)
    (λ a.
    some_match-halves _ c.args.rows.now _ _ (said g.D.References.entry c.args.columns.now a)
    c.split_at.ensures.front
    c.split_at.ensures.back) c.in_ok-front.ensures c.by_rows-back.ensures c.joined.ensures

pub returns-in-empty : goal.returns-in-empty
returns-in-empty g t c =
    reference_makes g.D.References.entry _ _ c.constant.result (λ _. false) _
    (λ a. no_rows_match c.args.rows.now (said g.D.References.entry c.args.columns.now a)
    c.in-empty.len_below) c.constant.ensures.ok
    c.constant.ensures.stop c.constant.ensures.only

pub returns-in-len1 : goal.returns-in-len1
returns-in-len1 g t c =
    makes_as g.D.References.entry _ _ c.by_row.result _ _
    (λ a. one_row_said c.args.rows.now _ (said g.D.References.entry c.args.columns.now a)
    c.in-len1.len_at_least c.in-len1.len_below)
    c.by_row.ensures

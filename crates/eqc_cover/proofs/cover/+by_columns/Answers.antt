use Rattle.std.proofs.Common.{rules, length, map, not, sym, ◌∙◌, ap, cond, arith}
use Rattle.std.proofs.lemmas.List.{nil_from_length}
use Rattle.eqc_tree.specs.Holding.{says}
use Rattle.eqc_cover.specs.Matching.{AreHeld, said}
use Rattle.eqc_cover.specs.Table.{table_value}
use Rattle.eqc_cover.proofs.HeldLaws.{held_rest}
use Rattle.eqc_cover.proofs.MatchingLaws.{no_rows, no_columns, expansion_said}
use Rattle.eqc_cover.proofs.MakingLaws.{reference_makes, makes_as, makes_held, makes_one_held}
use Rattle.eqc_cover.proofs.MakingLaws.{first_held, turns_owned, joined_makes}
use Rattle.eqc_cover.proofs.RowLaws.{free_columns, unconstrained_said, length_said}
use Rattle.eqc_cover.proofs.TableLaws.{all_open}
use Rattle.eqc_cover.proofs.SplitLaws.{on_said, off_said}
use Rattle.eqc_cover.proofs.cover.+by_columns.Goals as goal
use Rattle.eqc_cover.proofs.cover.+by_columns.Goals.{then-on, else-on}

pub returns-then-is_empty : goal.returns-then-is_empty
returns-then-is_empty g t c =
    reference_makes g.D.References.entry _ _ c.constant.result (λ _. not c.args.on) _
    (λ a. no_rows g.D.References.entry c.args.on c.args.rows.now c.args.columns.now a
    (sym c.is_empty.ensures ∙ c.if-is_empty.true))
    c.constant.ensures.ok c.constant.ensures.stop c.constant.ensures.only

pub returns-in_default : goal.returns-in_default
returns-in_default g t c =
    reference_makes g.D.References.entry _ _ c.constant-in_default.result (λ _. c.args.on) _
    (λ a.
    no_columns g.D.References.entry c.args.on c.args.rows.now c.args.columns.now a
    (sym c.is_empty.ensures ∙ c.if-is_empty.false)
    (nil_from_length c.args.columns.now c.in_default.ensures.cases))
    c.constant-in_default.ensures.ok
    c.constant-in_default.ensures.stop c.constant-in_default.ensures.only

pub returns-then-has_free_row : goal.returns-then-has_free_row
returns-then-has_free_row g t c =
    reference_makes g.D.References.entry _ _ c.constant-then-has_free_row.result (λ _. c.args.on) _
    (λ a.
    free_columns g.D.References.entry c.args.on (map (λ r. r.now) c.args.rows.now)
    c.args.columns.now a
    (sym c.has_free_row.ensures ∙ c.if-has_free_row.true)) c.constant-then-has_free_row.ensures.ok
    c.constant-then-has_free_row.ensures.stop c.constant-then-has_free_row.ensures.only

pub returns-then-not-both : goal.returns-then-not-both
returns-then-not-both g t c =
    makes_as g.D.References.entry _ _ c.by_columns.result _ _
    (λ a.
    unconstrained_said g.D.References.entry c.args.on c.args.rows.now c.deref.result.now
    c.in-Some.column.now c.args.columns.now
    c.in-Some.others.now a c.in-Some.ensures.cases.0 (sym c.in_ok-both.ensures.differ
    ∙ c.if-not-both.true)
    (rw c.deref.ensures.value c.in_ok-both.ensures.when_true)) c.by_columns.ensures

pub by_table-requires-clause-depends : goal.by_table-requires-clause-depends
by_table-requires-clause-depends g t c = all_open c.if-on.table (length c.args.columns.now)
    c.if-columns-le-MOST_COLUMNS.true

pub returns-then-columns-le-MOST_COLUMNS : goal.returns-then-columns-le-MOST_COLUMNS
returns-then-columns-le-MOST_COLUMNS g t c =
    makes_as g.D.References.entry _ _ c.by_table.result _ _
    (λ a. elim c.if-on.branch [
      | then-on w ↦ ap (λ u. table_value u (said g.D.References.entry c.args.columns.now a))
          w.table-is
          ∙ on_said c.matching_table-matched.result (length c.args.columns.now) c.args.on
          (map (λ r. r.now) c.args.rows.now)
          (said g.D.References.entry c.args.columns.now a) (length_said g.D.References.entry
          c.args.columns.now a) c.matching_table-matched.ensures w.if-on.true
      | else-on w ↦ ap (λ u. table_value u (said g.D.References.entry c.args.columns.now a))
          w.table-is
          ∙ off_said c.matching_table-matched.result (length c.args.columns.now) c.args.on
          (map (λ r. r.now) c.args.rows.now)
          (said g.D.References.entry c.args.columns.now a) (length_said g.D.References.entry
          c.args.columns.now a)
          c.if-columns-le-MOST_COLUMNS.true (omega arith) c.matching_table-matched.ensures
          w.if-on.false
    ]) c.by_table.ensures

pub by_columns-low-requires : goal.by_columns-low-requires
by_columns-low-requires g t c =
    let h : AreHeld g.D.References.entry (g.D.References.holding c.by_columns-2.new.d)
    c.in-Some.others.now =
    makes_held g.D.References.entry _ _ _ _ _ c.in_ok-high.ensures
    (held_rest g.D.References.entry _ c.in-Some.column.now c.args.columns.now _
    c.in-Some.ensures.cases.0 c.requires) in
    search rules

pub chosen-requires-clause-column : goal.chosen-requires-clause-column
chosen-requires-clause-column g t c =
    makes_one_held g.D.References.entry _ _ c.by_columns-low.result _ _ c.by_columns-low.ensures
    (makes_one_held g.D.References.entry _ _ _ _ _ c.in_ok-high.ensures
    (first_held g.D.References.entry _ c.in-Some.column.now c.args.columns.now c.in-Some.others.now
    c.in-Some.ensures.cases.0
    c.requires))

pub chosen-requires-clause-owned : goal.chosen-requires-clause-owned
chosen-requires-clause-owned g t c = turns_owned g.D.References.entry _ _ _ _
    c.by_columns-low.result _ _ c.in_ok-high.ensures c.by_columns-low.ensures

pub returns : goal.returns
returns g t c =
    joined_makes g.D.References.entry _ _ _ _ _ c.by_columns-low.result c.chosen.result _ _ _
    (λ a x y. cond (says (g.D.References.entry c.in-Some.column.now.now) a) x y)
    (λ a.
    expansion_said g.D.References.entry c.args.on c.args.rows.now c.deref-2.result.now
    c.deref-3.result.now c.in-Some.column.now
    c.args.columns.now c.in-Some.others.now a c.in-Some.ensures.cases.0 (rw c.deref-2.ensures.value
    c.in_ok-both.ensures.when_true)
    (rw c.deref-3.ensures.value c.in_ok-both.ensures.when_false)) c.in_ok-high.ensures
    c.by_columns-low.ensures c.chosen.ensures

use Rattle.std.proofs.Common.{map, drop, not, sym, ◌∙◌, arith}
use Rattle.eqc_cover.specs.Matching.{agrees, some_match}
use Rattle.eqc_cover.proofs.SplitsLaws.{made_ok, everywhere_said, no_rows_say, free_rows_say}
use Rattle.eqc_cover.proofs.SplitsLaws.{table_last, unconstrained, expanded, chosen_ok}
use Rattle.eqc_cover.proofs.splits.+expand.Goals as goal

pub returns-then-is_empty-clause-made : goal.returns-then-is_empty-clause-made
returns-then-is_empty-clause-made t c =
    made_ok c.args.columns _ c.table.result _ _
    (everywhere_said c.args.columns c.everywhere.result (not c.args.on) (λ vs. agrees c.args.on
    (some_match (map (λ r. r.now) c.args.rows.now) (drop c.args.column vs)))
    c.everywhere.ensures
    (λ vs. no_rows_say c.args.on c.args.rows.now (drop c.args.column vs) (sym c.is_empty.ensures
    ∙ c.if-is_empty.true))) (c.table.ensures.made c.args.columns)

pub returns-then-has_free_row-clause-made : goal.returns-then-has_free_row-clause-made
returns-then-has_free_row-clause-made t c =
    made_ok c.args.columns _ c.table-then-has_free_row.result _ _
    (everywhere_said c.args.columns c.everywhere-then-has_free_row.result c.args.on
    (λ vs. agrees c.args.on (some_match (map (λ r. r.now) c.args.rows.now) (drop c.args.column vs)))
    c.everywhere-then-has_free_row.ensures
    (λ vs. free_rows_say c.args.on (map (λ r. r.now) c.args.rows.now) (drop c.args.column vs)
    (sym c.has_free_row.ensures ∙ c.if-has_free_row.true)))
    (c.table-then-has_free_row.ensures.made
    c.args.columns)

pub returns-then-columns-column-eq-MOST_COLUMNS-clause-made :
    goal.returns-then-columns-column-eq-MOST_COLUMNS-clause-made
returns-then-columns-column-eq-MOST_COLUMNS-clause-made t c =
    made_ok c.args.columns _ c.table-then-columns-column-eq-MOST_COLUMNS.result _ _
    (table_last c.args.columns c.args.column c.last_table.result (λ vs. agrees c.args.on
    (some_match (map (λ r. r.now) c.args.rows.now) vs)) (omega arith) c.requires
    c.last_table.ensures)
    (c.table-then-columns-column-eq-MOST_COLUMNS.ensures.made c.args.columns)

pub returns-then-not-both-clause-made : goal.returns-then-not-both-clause-made
returns-then-not-both-clause-made t c =
    made_ok c.args.columns _ c.expand.result _ _
    (unconstrained c.args.columns c.args.column c.args.on (map (λ r. r.now) c.args.rows.now)
    (map (λ r. r.now) c.deref.result.now) (omega arith)
    (sym c.in_ok-both.ensures.differ ∙ c.if-not-both.true) (rw c.deref.ensures.value
    c.in_ok-both.ensures.when_true)) c.expand.ensures.made

pub returns-clause-made : goal.returns-clause-made
returns-clause-made t c =
    chosen_ok c.args.columns c.args.column c.in_ok-high.high c.in_ok-low.low c.choice.result _ _ _ _
    _ _ c.in_ok-low.ensures.grows
    c.in_ok-high.ensures.made c.in_ok-low.ensures.made c.choice.ensures.made
    (expanded c.args.columns c.args.column c.args.on (map (λ r. r.now) c.args.rows.now)
    (map (λ r. r.now) c.deref-2.result.now) (map (λ r. r.now) c.deref-3.result.now)
    (omega arith)
    (rw c.deref-2.ensures.value c.in_ok-both.ensures.when_true) (rw c.deref-3.ensures.value
    c.in_ok-both.ensures.when_false))

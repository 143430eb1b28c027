use Rattle.std.proofs.Common.{◌≡◌, arith, length, map, ap, ◌∙◌, Some}
use Rattle.std.proofs.lemmas.List.{length-map}
use Rattle.eqc_netlist.specs.Cover.{cover_value}
use Rattle.eqc_cover.specs.Table.{table_value}
use Rattle.eqc_cover.proofs.TableLaws.{all_open}
use Rattle.eqc_xag.specs.Graph.{literal_value}
use Rattle.eqc_build.specs.Building.{reference_of}
use Rattle.eqc_build.specs.Steps.{value_at}
use Rattle.eqc_gates.proofs.LiteralLaws.{value_as, made_as}
use Rattle.eqc_gates.proofs.EnteringLaws.{found_within, found_values}
use Rattle.eqc_gates.proofs.steps.step_literal.Goals as goal

pub returns-in-Copy-clause-value : goal.returns-in-Copy-clause-value
returns-in-Copy-clause-value c =
    value_as c.args.sweep.now c.literal_at.result (λ a. value_at c.args.steps.now.pair a
    c.in-Copy.other)
    (λ a. value_at c.args.steps.now.pair a c.args.step) c.in-Copy.ensures.1
    (c.requires.literals.each c.in-Copy.other c.literal_at.result c.literal_at.ensures)

pub cover_literal-requires : goal.cover_literal-requires
cover_literal-requires c =
    found_within c.args.steps.now.pair c.args.sweep.now c.args.table.now c.in-Cover.columns
    c.deref.result.now c.requires.literals (rw c.deref.ensures.value
    c.in_ok-columns-in-Cover.ensures)

pub returns-in_ok-columns-in-Cover-clause-value : goal.returns-in_ok-columns-in-Cover-clause-value
returns-in_ok-columns-in-Cover-clause-value c =
    made_as c.cover_literal.new.sweep c.cover_literal.result
    (λ a. cover_value c.in-Cover.rows.now (map (literal_value c.args.sweep.now a)
    c.deref.result.now))
    (λ a. value_at c.args.steps.now.pair a c.args.step)
    (λ a.
    ap (cover_value c.in-Cover.rows.now)
    (found_values c.args.steps.now.pair c.args.sweep.now c.args.table.now c.in-Cover.columns
    c.deref.result.now a c.requires.literals
    (rw c.deref.ensures.value c.in_ok-columns-in-Cover.ensures))
    ∙ c.in-Cover.ensures.1 a)
    c.cover_literal.ensures.value

pub table_literal-requires-clause-few : goal.table_literal-requires-clause-few
table_literal-requires-clause-few c =
    let found = c.deref-in-Table.result.now in
    let size : length (map (λ l. Some l) found) ≡ length (map (reference_of c.args.table.now)
    c.in-Table.columns) =
    ap length (rw c.deref-in-Table.ensures.value c.in_ok-columns-in-Table.ensures) in
    omega (
      arith,
      c.in-Table.ensures.1,
      size,
      length-map found (λ l. Some l),
      length-map c.in-Table.columns (reference_of c.args.table.now),
    )

pub table_literal-requires-clause-within : goal.table_literal-requires-clause-within
table_literal-requires-clause-within c =
    found_within c.args.steps.now.pair c.args.sweep.now c.args.table.now c.in-Table.columns
    c.deref-in-Table.result.now c.requires.literals (rw c.deref-in-Table.ensures.value
    c.in_ok-columns-in-Table.ensures)

pub table_literal-requires-clause-depends : goal.table_literal-requires-clause-depends
table_literal-requires-clause-depends c =
    let found = c.deref-in-Table.result.now in
    let size : length (map (λ l. Some l) found) ≡ length (map (reference_of c.args.table.now)
    c.in-Table.columns) =
    ap length (rw c.deref-in-Table.ensures.value c.in_ok-columns-in-Table.ensures) in
    all_open c.in-Table.truth (length found)
    (omega (
      arith,
      c.in-Table.ensures.1,
      size,
      length-map found (λ l. Some l),
      length-map c.in-Table.columns (reference_of c.args.table.now),
    ))

pub returns-in_ok-columns-in-Table-clause-value : goal.returns-in_ok-columns-in-Table-clause-value
returns-in_ok-columns-in-Table-clause-value c =
    made_as c.table_literal.new.sweep c.table_literal.result
    (λ a. table_value c.in-Table.truth (map (literal_value c.args.sweep.now a)
    c.deref-in-Table.result.now))
    (λ a. value_at c.args.steps.now.pair a c.args.step)
    (λ a.
    ap (table_value c.in-Table.truth)
    (found_values c.args.steps.now.pair c.args.sweep.now c.args.table.now c.in-Table.columns
    c.deref-in-Table.result.now a c.requires.literals
    (rw c.deref-in-Table.ensures.value c.in_ok-columns-in-Table.ensures))
    ∙ c.in-Table.ensures.2 a)
    c.table_literal.ensures.value

use Rattle.std.proofs.Common.{◌≡◌, ◌&&◌, true, length, eqb, refl, sym, ◌∙◌, arith}
use Rattle.std.specs.List.{list_all}
use Rattle.std.proofs.lemmas.Bool.{eq-eqb}
use Rattle.eqc_blif.specs.Reading.{is_column_value, is_output_value}
use Rattle.eqc_blif.proofs.RowLemmas.{row_shape_is}
use Rattle.eqc_blif.proofs.model.cover.has_row_shape.Goals as goal

pub returns : goal.returns
returns c =
    let values = c.in-Some.values.now in
    let same : length values ≡ c.args.columns = omega arith in
    let valid : list_all is_column_value values ≡ true = sym c.are_column_values.ensures
    ∙ c.if-not-are_column_values.false in
    let whole :
    (eqb (length values) c.args.columns && (list_all is_column_value values
    && is_output_value c.in-Some.output.now))
    ≡ is_output_value c.in-Some.output.now =
    rw (eq-eqb (length values) c.args.columns same, valid) refl in
    c.is_output_value.ensures
    ∙ sym (row_shape_is c.args.columns c.args.row.now values c.in-Some.output.now
    c.in-Some.ensures.cases.0 ∙ whole)

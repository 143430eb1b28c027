use Rattle.std.proofs.Common.{◌≡◌, ◌+◌, ◌∙◌, None, sym, ap, length, subst}
use Rattle.std.specs.Option.{option_map}
use Rattle.eqc_blif.specs.Netlist.{CoverOf}
use Rattle.eqc_netlist.specs.Rows.{rows_in}
use Rattle.eqc_netlist.specs.TextRule.{rule_code}
use Rattle.eqc_blif.specs.Words.{without_blanks}
use Rattle.eqc_blif.specs.Steps.{TakesRow, code_behind}
use Rattle.eqc_blif.proofs.RowLemmas.{cut_code, row_put_behind, row_put_whole}
use Rattle.eqc_blif.proofs.model.cover.Cover.take_row.Goals as goal

pub invariant_of-self-in_default : goal.invariant_of-self-in_default
invariant_of-self-in_default c =
    let columns = length c.self.inside.columns.items in
    let bytes = c.self.inside.bytes.items in
    let row = without_blanks c.args.line.now in
    let put = c.in_ok-append_without_blanks.ensures in
    let known : None ≡ code_behind columns (rows_in (columns + 1) bytes) row =
    sym (ap (option_map rule_code) c.in_default.is)
    ∙ (c.row_rule-rule.ensures
    ∙ cut_code c.len-columns.result columns c.len-end.result bytes row c.as_slice.result.now
    c.split_at.result.0.now
    c.split_at.result.1.now c.of.result
    (c.len-columns.ensures ∙ c.self.inside.columns.ok.0) c.len-end.ensures.value (c.as_slice.ensures
    ∙ put) c.split_at.ensures.front c.split_at.ensures.back c.of.ensures) in
    row_put_whole columns (rows_in (columns + 1) bytes) bytes
    c.append_without_blanks.new.bytes.items row c.self.invariant put (sym known)

pub returns : goal.returns
returns c =
    let columns = length c.self.inside.columns.items in
    let bytes = c.self.inside.bytes.items in
    let row = without_blanks c.args.line.now in
    let put = c.in_ok-append_without_blanks.ensures in
    let known : None ≡ code_behind columns (rows_in (columns + 1) bytes) row =
    sym (ap (option_map rule_code) c.in_default.is)
    ∙ (c.row_rule-rule.ensures
    ∙ cut_code c.len-columns.result columns c.len-end.result bytes row c.as_slice.result.now
    c.split_at.result.0.now
    c.split_at.result.1.now c.of.result
    (c.len-columns.ensures ∙ c.self.inside.columns.ok.0) c.len-end.ensures.value (c.as_slice.ensures
    ∙ put) c.split_at.ensures.front c.split_at.ensures.back c.of.ensures) in
    let new : CoverOf = record {
      columns = c.self.inside.columns.items;
      output =
          c.self.inside.output;
      rows = rows_in (columns + 1) c.append_without_blanks.new.bytes.items;
    }
    in
    subst (λ old. TakesRow old row None new) c.self.view_is
    (row_put_behind c.self.inside.columns.items c.self.inside.output bytes
    c.append_without_blanks.new.bytes.items row None
    c.self.invariant put known)

use Rattle.std.specs.Option.{option_map}
use Rattle.eqc_netlist.specs.TextRule.{rule_code}
use Rattle.eqc_blif.specs.Words.{without_blanks}
use Rattle.eqc_blif.specs.Steps.{model_of}
use Rattle.eqc_blif.proofs.RowLemmas.{row_taken}
use Rattle.eqc_blif.proofs.reader.open_model.OpenModel.take_row.Goals as goal

pub returns-clause-taken : goal.returns-clause-taken
returns-clause-taken c =
    rw (← c.self.view_is, c.in-Some.is)
    (row_taken (model_of c.self.inside.name c.self.inside.declarations) c.in-Some.cover
    c.take_row.new.self
    (without_blanks c.args.line.now) (option_map rule_code c.in_ok-rule.rule) c.in_ok-rule.ensures)

use Rattle.std.proofs.Common.{sym, ◌∙◌}
use Rattle.std.proofs.lemmas.Bool.{eqb-true, eq-eqb, false≢true}
use Rattle.eqc_report.proofs.OptionsLemmas.{not_cell_count, cell_count_below}
use Rattle.eqc_report.proofs.options.is_cell_count.Goals as goal

pub returns-then-is_power_of_two : goal.returns-then-is_power_of_two
returns-then-is_power_of_two c =
    cell_count_below c.args.cells (eqb-true _ _ (sym c.is_power_of_two.ensures
    ∙ c.if-is_power_of_two.true))

pub returns-else-is_power_of_two : goal.returns-else-is_power_of_two
returns-else-is_power_of_two c = c.if-is_power_of_two.false
    ∙ not_cell_count c.args.cells (λ one. false≢true (sym c.if-is_power_of_two.false
    ∙ c.is_power_of_two.ensures ∙ eq-eqb _ _ one))

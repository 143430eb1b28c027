use Rattle.eqc_report.proofs.OptionsLemmas.{inputs_in_range}
use Rattle.eqc_check.proofs.decide.Decision.limit.Goals as goal

pub returns : goal.returns
returns g c = c.input_limit.ensures (inputs_in_range c.args.self.now.case.now.options c.requires)

use Rattle.eqc_report.proofs.OptionsLemmas.{options_in_range}
use Rattle.eqc_engine.proofs.workers.team_for.Goals as goal

pub team_with-requires : goal.team_with-requires
team_with-requires c = options_in_range c.args.options.now c.requires

use Rattle.eqc_flat.proofs.SignalLaws as law
use Rattle.eqc_flat.proofs.laws.signals_are_names_of_instances.Goals as goal

pub returns : goal.returns
returns c = law.signals_are_names_of_instances

use Rattle.eqc_flat.proofs.SignalLaws as law
use Rattle.eqc_flat.proofs.laws.signals_stand_once.Goals as goal

pub returns : goal.returns
returns c = law.signals_stand_once

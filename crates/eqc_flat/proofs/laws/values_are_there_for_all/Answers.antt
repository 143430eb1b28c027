use Rattle.eqc_flat.proofs.DepthLaws as depth
use Rattle.eqc_flat.proofs.laws.values_are_there_for_all.Goals as goal

pub returns : goal.returns
returns c = depth.values_are_there_for_all

use Rattle.eqc_flat.proofs.DepthLaws as depth
use Rattle.eqc_flat.proofs.laws.values_stay.Goals as goal

pub returns : goal.returns
returns c = depth.values_stay

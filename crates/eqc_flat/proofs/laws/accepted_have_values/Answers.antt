use Rattle.eqc_flat.proofs.DepthLaws as depth
use Rattle.eqc_flat.proofs.laws.accepted_have_values.Goals as goal

pub returns : goal.returns
returns c = depth.accepted_have_values

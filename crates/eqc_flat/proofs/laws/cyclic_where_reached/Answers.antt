use Rattle.eqc_flat.proofs.CyclicLaws as law
use Rattle.eqc_flat.proofs.laws.cyclic_where_reached.Goals as goal

pub returns : goal.returns
returns c = law.cyclic_where_reached

use Rattle.eqc_flat.proofs.RecursionLaws as law
use Rattle.eqc_flat.proofs.laws.recursive_where_reached.Goals as goal

pub returns : goal.returns
returns c = law.recursive_where_reached

use Rattle.eqc_strash.proofs.StructureLaws.{structure_follows}
use Rattle.eqc_strash.proofs.laws.structures_follow_drivers.Goals as goal

pub returns : goal.returns
returns c = structure_follows

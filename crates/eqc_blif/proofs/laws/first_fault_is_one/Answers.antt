use Rattle.eqc_blif.proofs.FaultLaws.{found_is_first, first_is_found}
use Rattle.eqc_blif.proofs.laws.first_fault_is_one.Goals as goal

pub returns-clause-first : goal.returns-clause-first
returns-clause-first c = found_is_first

pub returns-clause-one : goal.returns-clause-one
returns-clause-one c = first_is_found

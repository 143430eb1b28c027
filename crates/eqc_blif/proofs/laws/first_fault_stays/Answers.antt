use Rattle.eqc_blif.proofs.FollowLaws.{texts_follow}
use Rattle.eqc_blif.proofs.FaultLaws.{first_fault_stays}
use Rattle.eqc_blif.proofs.laws.first_fault_stays.Goals as goal

pub returns-clause-lines : goal.returns-clause-lines
returns-clause-lines c = texts_follow

pub returns-clause-fault : goal.returns-clause-fault
returns-clause-fault c = first_fault_stays

use Rattle.eqc_core.proofs.Bounds.{scans_leave_few}
use Rattle.eqc_core.proofs.laws.scans_leave_few.Goals as goal

pub returns : goal.returns
returns c = λ z w hs vs id name v law at on last. scans_leave_few z w hs vs id v law at on name last

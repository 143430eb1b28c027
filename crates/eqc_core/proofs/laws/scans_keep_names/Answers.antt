use Rattle.eqc_core.proofs.Bounds.{scans_keep_names}
use Rattle.eqc_core.proofs.laws.scans_keep_names.Goals as goal

pub returns : goal.returns
returns c = λ v name. scans_keep_names v name

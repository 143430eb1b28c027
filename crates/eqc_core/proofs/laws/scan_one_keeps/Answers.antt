use Rattle.eqc_core.proofs.Scanning as lemmas
use Rattle.eqc_core.proofs.laws.scan_one_keeps.Goals as goal

pub returns : goal.returns
returns c = λ z w hs vs id v law at on may room. lemmas.scan_keeps z w hs vs id v law at on may room

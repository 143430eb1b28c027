use Rattle.eqc_core.proofs.Bounds.{splits_come_last}
use Rattle.eqc_core.proofs.laws.splits_come_last.Goals as goal

pub returns : goal.returns
returns c = λ z w hs vs id v law at on ready first few. splits_come_last z w hs vs id v law at on
    ready first few

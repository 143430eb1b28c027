use Rattle.eqc_core.proofs.Joining as lemmas
use Rattle.eqc_core.proofs.laws.join_keeps.Goals as goal

pub returns : goal.returns
returns c = λ z w hs vs id from v o law at on there may room. lemmas.join_keeps z w hs vs id from v
    o law at on there may room

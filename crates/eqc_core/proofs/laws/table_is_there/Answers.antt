use Rattle.eqc_core.proofs.Locking as lemmas
use Rattle.eqc_core.proofs.laws.table_is_there.Goals as goal

pub returns : goal.returns
returns c = λ z w hs vs i law lt wins. lemmas.table_is_there z w hs vs i law lt wins

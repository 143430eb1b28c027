use Rattle.eqc_core.proofs.Collecting as lemmas
use Rattle.eqc_core.proofs.laws.empty_is_free.Goals as goal

pub returns : goal.returns
returns c = λ s law bare free x two lt. lemmas.empty_is_free s law bare free x two lt

use Rattle.eqc_core.proofs.Caching as lemmas
use Rattle.eqc_core.proofs.laws.swap_cell_keeps.Goals as goal

pub returns : goal.returns
returns c = λ cell word z w hs vs id v law at on may room. lemmas.swap_keeps z w hs vs id v law at
    on cell word may room

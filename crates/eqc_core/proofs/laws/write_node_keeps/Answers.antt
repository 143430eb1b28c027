use Rattle.eqc_core.proofs.Writing as lemmas
use Rattle.eqc_core.proofs.laws.write_node_keeps.Goals as goal

pub returns : goal.returns
returns c = λ d word h z w hs vs id v law at on may room. lemmas.write_keeps z w hs vs id v law at
    on d word h may room

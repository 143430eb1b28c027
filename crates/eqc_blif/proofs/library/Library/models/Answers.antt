use Rattle.eqc_blif.proofs.ReaderLemmas.{names_once}
use Rattle.eqc_blif.proofs.library.Library.models.Goals as goal

pub returns-clause-once : goal.returns-clause-once
returns-clause-once c = rw (← c.self.view_is) (names_once c.self.inside.models.entries
    c.len.ensures.unique)

use Rattle.std.proofs.Common.{◌∙◌}
use Rattle.eqc_blif.proofs.ReaderLemmas.{found_at}
use Rattle.eqc_blif.proofs.library.Library.find.Goals as goal

pub returns : goal.returns
returns c = c.get_index_of.ensures.index
    ∙ rw (← c.self.view_is) (found_at c.self.inside.models.entries c.args.name.now)

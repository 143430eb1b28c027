use Rattle.std.proofs.Common.{◌∙◌}
use Rattle.eqc_blif.proofs.ReaderLemmas.{found_named}
use Rattle.eqc_blif.proofs.library.Library.has.Goals as goal

pub returns : goal.returns
returns c = c.contains_key.ensures ∙ rw (← c.self.view_is) (found_named c.self.inside.models.entries
    c.args.name.now)

use Rattle.eqc_blif.proofs.ReaderLemmas.{model_added}
use Rattle.eqc_blif.proofs.library.Library.add.Goals as goal

pub returns : goal.returns
returns c = model_added c.self.inside.models.entries c.insert.new.self.entries c.args.self.now
    c.args.name c.args.declarations c.self.view_is c.requires c.in_ok-insert.ensures.entries

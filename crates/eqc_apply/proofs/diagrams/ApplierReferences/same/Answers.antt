use Rattle.eqc_apply.proofs.Answering.{says_same}
use Rattle.eqc_apply.proofs.diagrams.ApplierReferences.same.Goals as goal

pub returns : goal.returns
returns c = says_same c.args.self.now.names c.args.f.now.at.value c.args.g.now.at.value
    c.args.f.now.name c.args.g.now.name c.recall_laws.ensures c.requires.f c.requires.g

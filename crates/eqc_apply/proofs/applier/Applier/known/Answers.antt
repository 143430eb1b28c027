use Rattle.eqc_plain.proofs.Combining.{decided}
use Rattle.eqc_apply.proofs.Meanings.{names_constants}
use Rattle.eqc_apply.proofs.applier.Applier.known.Goals as goal

pub returns-in-Some-clause-right : goal.returns-in-Some-clause-right
returns-in-Some-clause-right c =
    let n = c.args.self.now.names in
    decided (names_constants n.variables n.worker.known) c.args.op c.args.f c.args.g c.in-Some.x
    c.requires.f c.requires.g c.in-Some.ensures.decided

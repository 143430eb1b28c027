use Rattle.eqc_guard.proofs.Making.{held_small}
use Rattle.std.proofs.Common.{Some}
use Rattle.eqc_apply.proofs.Kept.{found}
use Rattle.eqc_apply.proofs.applier.Applier.find.Goals as goal

pub find-requires-clause-f : goal.find-requires-clause-f
find-requires-clause-f c = held_small c.args.self.now.names.worker.known c.args.f
    c.recall_laws.ensures c.requires.f

pub find-requires-clause-g : goal.find-requires-clause-g
find-requires-clause-g c = held_small c.args.self.now.names.worker.known c.args.g
    c.recall_laws.ensures c.requires.g

pub returns-in-Some-clause-right : goal.returns-in-Some-clause-right
returns-in-Some-clause-right c =
    let n = c.args.self.now.names in
    found n.variables n.worker.known c.args.self.now.cells.cells.items c.args.op c.args.f c.args.g
    (Some c.in-Some.x) c.args.self.now.cached c.in-Some.ensures.found

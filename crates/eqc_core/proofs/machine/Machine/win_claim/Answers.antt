use Rattle.std.proofs.Common.{refl, arith}
use Rattle.eqc_core.specs.Making.{claimed}
use Rattle.eqc_core.specs.Machine.{state_of}
use Rattle.eqc_core.proofs.Stored.{turned, stepped}
use Rattle.eqc_core.proofs.machine.Machine.win_claim.Goals as goal
use Rattle.eqc_core.proofs.Stored.{count_there}

pub index_mut-requires : goal.index_mut-requires
index_mut-requires c = let h = (count_there c.args.self.now c.args.id c.args.x c.requires.turn
    c.requires.may.0.2).1 in omega arith

pub returns : goal.returns
returns c =
    let m = c.args.self.now in
    let t =
    turned m.sizes m.workers.items c.args.id c.index_mut-worker.result.now c.claim.new.self
    (λ v. claimed v c.args.x) c.requires.turn.there
    c.index_mut-worker.ensures.value c.requires.turn.active c.claim.ensures in
    stepped (state_of m) _ _ _ _ refl t

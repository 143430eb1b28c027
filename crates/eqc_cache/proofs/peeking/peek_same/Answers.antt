use Rattle.eqc_cache.proofs.Snapshots.{compares}
use Rattle.eqc_cache.proofs.peeking.peek_same.Goals as goal

pub returns : goal.returns
returns c =
    compares c.args.worker.now.known c.args.snapshot.now c.args.f.now.number c.number.result
    c.recall_laws.ensures c.requires.out c.requires.held c.number.ensures

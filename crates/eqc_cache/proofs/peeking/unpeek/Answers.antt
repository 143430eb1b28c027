use Rattle.std.proofs.Common.{◌<◌, ◌≤◌, arith}
use Rattle.eqc_cache.proofs.Snapshots.{may_unpeek, unpeeks}
use Rattle.eqc_cache.proofs.peeking.unpeek.Goals as goal

pub announce-requires : goal.announce-requires
announce-requires c = may_unpeek c.args.snapshot c.args.worker.now c.recall_laws.ensures
    c.requires.out c.if-number-ge2.true c.requires.ready

pub returns-then-number-ge2-clause-node : goal.returns-then-number-ge2-clause-node
returns-then-number-ge2-clause-node c = λ two. unpeeks c.args.snapshot c.args.worker.now
    c.recall_laws.ensures c.requires.out two c.announce.new.self c.announce.ensures.step

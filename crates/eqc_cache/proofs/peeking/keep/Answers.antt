use Rattle.std.proofs.Common.{◌<◌, ◌≤◌, arith}
use Rattle.eqc_cache.proofs.Snapshots.{knows_snapshot, snapshot_there, keeps_constant, keeps_if}
use Rattle.eqc_cache.proofs.peeking.keep.Goals as goal

pub returns-then-snapshot-lt2-clause-kept : goal.returns-then-snapshot-lt2-clause-kept
returns-then-snapshot-lt2-clause-kept c = keeps_constant c.args.snapshot.now.number
    c.args.worker.now c.recall_laws.ensures c.if-snapshot-lt2.true

pub up-requires-clause-there : goal.up-requires-clause-there
up-requires-clause-there c = snapshot_there c.args.worker.now.known c.args.snapshot.now
    c.recall_laws.ensures c.requires.out (let n = c.if-snapshot-lt2.false in omega arith)

pub up-requires-clause-known : goal.up-requires-clause-known
up-requires-clause-known c = knows_snapshot c.args.worker.now.known.core c.args.snapshot.now
    c.requires.out (let n = c.if-snapshot-lt2.false in omega arith)

pub returns-clause-kept : goal.returns-clause-kept
returns-clause-kept c =
    keeps_if c.args.snapshot.now c.args.worker.now c.up.new.self c.up.result c.recall_laws.ensures
    c.requires.out (let n = c.if-snapshot-lt2.false in omega arith) c.up.ensures.step

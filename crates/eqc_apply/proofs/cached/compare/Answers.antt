use Rattle.std.proofs.Common.{List, ℕ, sym, subst}
use Rattle.eqc_core.specs.Words.{times}
use Rattle.eqc_cache.proofs.Snapshots.{still_ready, given_back}
use Rattle.eqc_apply.proofs.Comparing.{snapshot_compares, held_on}
use Rattle.eqc_apply.proofs.cached.compare.Goals as goal

pub peek_same-same-requires-clause-held : goal.peek_same-same-requires-clause-held
peek_same-same-requires-clause-held c = held_on c.args.worker.now.known.core
    c.peek.new.worker.known.core c.args.r.now.number c.peek.ensures.held c.requires.r

pub unpeek-requires-clause-ready : goal.unpeek-requires-clause-ready
unpeek-requires-clause-ready c =
    still_ready c.args.op c.args.f.now.number c.args.g.now.number c.in_ok-snapshot.snapshot
    c.args.worker.now c.peek.new.worker c.in_ok-snapshot.ensures.peeked c.requires.may.0

pub returns-clause-same : goal.returns-clause-same
returns-clause-same c =
    snapshot_compares c.args.op c.args.f.now.number c.args.g.now.number c.args.r.now.number
    c.in_ok-snapshot.snapshot c.args.worker.now c.peek.new.worker
    c.peek_same-same.result c.in_ok-snapshot.ensures.peeked c.requires.r c.peek_same-same.ensures

pub returns-clause-passes : goal.returns-clause-passes
returns-clause-passes c =
    given_back c.args.op c.args.f.now.number c.args.g.now.number c.in_ok-snapshot.snapshot
    c.args.worker.now c.peek.new.worker c.in_ok-snapshot.ensures.peeked
    c.unpeek.new.worker c.unpeek.ensures.constant c.unpeek.ensures.node

pub returns-in_err-snapshot-clause-passes : goal.returns-in_err-snapshot-clause-passes
returns-in_err-snapshot-clause-passes c = c.peek.ensures.miss c.in_err-snapshot.was

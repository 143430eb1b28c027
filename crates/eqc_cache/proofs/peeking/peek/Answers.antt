use Rattle.std.proofs.Common.{◌<◌, arith}
use Rattle.eqc_cache.proofs.Hits.{ordered_held, small_operands}
use Rattle.eqc_cache.proofs.Snapshots.{peeked_as_given, outs_now, all_keep, results_there}
use Rattle.eqc_cache.proofs.Snapshots.{missed_there}
use Rattle.eqc_cache.proofs.peeking.peek.Goals as goal

pub seek-requires-clause-may : goal.seek-requires-clause-may
seek-requires-clause-may c =
    let there = c.place-cell.ensures.within in
    let all = c.cells.ensures.cells in
    (c.requires.may.0, c.requires.may.1, omega arith, c.requires.may.3)

pub seek-requires-clause-first : goal.seek-requires-clause-first
seek-requires-clause-first c =
    (small_operands c.args.op c.args.f.now.number c.args.g.now.number c.number.result
    c.number-2.result c.ordered-first.result
    c.args.worker.now.known c.cells.ensures.known c.requires.first c.requires.second
    c.number.ensures c.number-2.ensures
    c.ordered-first.ensures.either).0

pub seek-requires-clause-second : goal.seek-requires-clause-second
seek-requires-clause-second c =
    (small_operands c.args.op c.args.f.now.number c.args.g.now.number c.number.result
    c.number-2.result c.ordered-first.result
    c.args.worker.now.known c.cells.ensures.known c.requires.first c.requires.second
    c.number.ensures c.number-2.ensures
    c.ordered-first.ensures.either).1

pub seek-requires-clause-first_held : goal.seek-requires-clause-first_held
seek-requires-clause-first_held c =
    (ordered_held c.args.op c.args.f.now.number c.args.g.now.number c.number.result
    c.number-2.result c.ordered-first.result
    c.args.worker.now.known.core c.number.ensures c.number-2.ensures c.requires.first
    c.requires.second c.ordered-first.ensures.either).0

pub seek-requires-clause-second_held : goal.seek-requires-clause-second_held
seek-requires-clause-second_held c =
    (ordered_held c.args.op c.args.f.now.number c.args.g.now.number c.number.result
    c.number-2.result c.ordered-first.result
    c.args.worker.now.known.core c.number.ensures c.number-2.ensures c.requires.first
    c.requires.second c.ordered-first.ensures.either).1

pub returns-clause-peeked : goal.returns-clause-peeked
returns-clause-peeked c =
    peeked_as_given c.args.op c.args.f.now.number c.args.g.now.number c.args.worker.now
    c.seek.new.worker c.number.result c.number-2.result
    c.ordered-first.result c.seek.result c.number.ensures c.number-2.ensures
    c.ordered-first.ensures.either c.seek.ensures.peeked

pub returns-clause-out : goal.returns-clause-out
returns-clause-out c =
    outs_now c.args.op c.ordered-first.result.0 c.ordered-first.result.1 c.args.worker.now
    c.seek.new.worker c.seek.result c.seek.ensures.peeked

-- whatever came, the names held and the snapshots are as before
pub returns-clause-held : goal.returns-clause-held
returns-clause-held c =
    (all_keep c.args.op c.ordered-first.result.0 c.ordered-first.result.1 c.args.worker.now
    c.seek.new.worker c.seek.result c.seek.ensures.peeked c.seek.ensures.miss).1

pub returns-clause-snapshots : goal.returns-clause-snapshots
returns-clause-snapshots c =
    (all_keep c.args.op c.ordered-first.result.0 c.ordered-first.result.1 c.args.worker.now
    c.seek.new.worker c.seek.result c.seek.ensures.peeked c.seek.ensures.miss).0

pub returns-clause-found : goal.returns-clause-found
returns-clause-found c =
    results_there c.args.op c.args.f.now.number c.args.g.now.number c.number.result
    c.number-2.result c.cells.result c.place-cell.result
    c.ordered-first.result c.args.worker.now.known c.number.ensures c.number-2.ensures
    c.ordered-first.ensures.order c.cells.ensures.cells
    c.place-cell.ensures.place c.seek.result c.seek.ensures.found

pub returns-clause-missed : goal.returns-clause-missed
returns-clause-missed c =
    λ none.
    missed_there c.args.op c.args.f.now.number c.args.g.now.number c.number.result c.number-2.result
    c.cells.result c.place-cell.result
    c.ordered-first.result c.args.worker.now.known c.number.ensures c.number-2.ensures
    c.ordered-first.ensures.order c.cells.ensures.cells
    c.place-cell.ensures.place (c.seek.ensures.missed none)

use Rattle.std.proofs.Common.{arith}
use Rattle.eqc_arena.proofs.Changing.{begins, still, here, lengths_now}
use Rattle.eqc_arena.proofs.Emptying.{first_turn, all_turns}
use Rattle.eqc_arena.proofs.Taking.{may_clear, quiet_cleared, cleared}
use Rattle.eqc_arena.proofs.collecting.collect.Goals as goal

pub clear-requires-clause-may : goal.clear-requires-clause-may
clear-requires-clause-may g c = may_clear c.args.worker.now.known c.recall_laws.ensures
    c.requires.rest c.requires.cells

pub scan-requires-clause-may : goal.scan-requires-clause-may
scan-requires-clause-may g c = quiet_cleared c.args.worker.now c.clear.new.worker c.requires.rest
    c.clear.ensures.before

pub loop-turn-init : goal.loop-turn-init
loop-turn-init g c = record {
  changes = cleared c.args.worker.now c.clear.new.worker c.scan.new.self c.requires.rest
      c.clear.ensures.before c.scan.ensures;
  tries = λ may. first_turn c.args.worker.now c.clear.new.worker c.scan.new.self may c.requires.rest
      c.clear.ensures.before c.clear.ensures.empty c.scan.ensures;
}

pub turn-taken-requires-clause-rest : goal.turn-taken-requires-clause-rest
turn-taken-requires-clause-rest g c = begins c.requires.rest c.loop-turn.invariant.changes

pub turn-taken-requires-clause-room : goal.turn-taken-requires-clause-room
turn-taken-requires-clause-room g c = let room = c.requires.room in
    omega (arith, lengths_now c.loop-turn.invariant.changes)

pub loop-turn-preserved : goal.loop-turn-preserved
loop-turn-preserved g c = record {
  changes = still c.loop-turn.invariant.changes (here c.loop-turn.invariant.changes
      c.turn-taken.ensures.changes);
  tries = λ may. (c.turn-taken.ensures.tries c.loop-turn._turn (c.loop-turn.invariant.tries may)).0;
}

pub returns-after-loop-turn-clause-changes : goal.returns-after-loop-turn-clause-changes
returns-after-loop-turn-clause-changes g c = c.loop-turn.invariant.changes

pub returns-after-loop-turn-clause-empty : goal.returns-after-loop-turn-clause-empty
returns-after-loop-turn-clause-empty g c may =
    all_turns c.loop-turn._turn 0 0 c.loop-turn.worker.known (c.loop-turn.invariant.tries may)
    (let over = c.loop-turn-test.false in omega arith)

pub returns-then-taken-eq0-clause-changes : goal.returns-then-taken-eq0-clause-changes
returns-then-taken-eq0-clause-changes g c = still c.loop-turn.invariant.changes
    (here c.loop-turn.invariant.changes c.turn-taken.ensures.changes)

pub returns-then-taken-eq0-clause-empty : goal.returns-then-taken-eq0-clause-empty
returns-then-taken-eq0-clause-empty g c may =
    (c.turn-taken.ensures.tries c.loop-turn._turn (c.loop-turn.invariant.tries may)).1
    c.if-taken-eq0.true

use Rattle.std.proofs.Common.{arith}
use Rattle.eqc_arena.proofs.Changing.{stays, still, here, lengths_now, begins}
use Rattle.eqc_arena.proofs.sweeping.sweep.Goals as goal

pub loop-turn-init : goal.loop-turn-init
loop-turn-init g c = record { changes = stays c.args.worker.now c.recall_laws.ensures }

pub turn-taken-requires-clause-rest : goal.turn-taken-requires-clause-rest
turn-taken-requires-clause-rest g c = begins c.requires.rest c.loop-turn.invariant.changes

pub turn-taken-requires-clause-room : goal.turn-taken-requires-clause-room
turn-taken-requires-clause-room g c = let room = c.requires.room in
    omega (arith, lengths_now c.loop-turn.invariant.changes)

pub loop-turn-preserved : goal.loop-turn-preserved
loop-turn-preserved g c =
    record {
      changes = still c.loop-turn.invariant.changes (here c.loop-turn.invariant.changes
          c.turn-taken.ensures.changes);
    }

pub returns-then-workers-gt1 : goal.returns-then-workers-gt1
returns-then-workers-gt1 g c =
    record {
      changes = still c.loop-turn.invariant.changes (here c.loop-turn.invariant.changes
          c.turn-taken.ensures.changes);
    }

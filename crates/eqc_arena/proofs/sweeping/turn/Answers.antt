use Rattle.std.proofs.Common.{arith}
use Rattle.eqc_arena.proofs.Changing.{stays, still, here, lengths_now, begins}
use Rattle.eqc_arena.proofs.sweeping.turn.Goals as goal

pub loop-passed-init : goal.loop-passed-init
loop-passed-init g c = record {
  few = omega arith;
  changes =
      stays c.args.worker.now c.recall_laws.ensures;
}

pub take_stripe-here-requires-clause-rest : goal.take_stripe-here-requires-clause-rest
take_stripe-here-requires-clause-rest g c = begins c.requires.rest c.loop-passed.invariant.changes

pub take_stripe-here-requires-clause-room : goal.take_stripe-here-requires-clause-room
take_stripe-here-requires-clause-room g c = let room = c.requires.room in
    omega (arith, lengths_now c.loop-passed.invariant.changes)

pub take_fallen-taken-requires-clause-rest : goal.take_fallen-taken-requires-clause-rest
take_fallen-taken-requires-clause-rest g c =
    begins (begins c.requires.rest c.loop-passed.invariant.changes)
    c.take_stripe-here.ensures.changes

pub take_fallen-taken-requires-clause-room : goal.take_fallen-taken-requires-clause-room
take_fallen-taken-requires-clause-room g c = let room = c.requires.room in
    omega (
      arith,
      lengths_now c.loop-passed.invariant.changes,
      lengths_now c.take_stripe-here.ensures.changes,
    )

pub loop-passed-preserved : goal.loop-passed-preserved
loop-passed-preserved g c =
    let t = still c.loop-passed.invariant.changes (here c.loop-passed.invariant.changes
    c.take_stripe-here.ensures.changes) in
    record {
      few = let before = c.loop-passed.invariant.few in let few = c.take_stripe-here.ensures.few in
          let fell = c.take_fallen-taken.ensures.few in omega arith;
      changes = still t (here t c.take_fallen-taken.ensures.changes);
    }

pub returns-then-here-few : goal.returns-then-here-few
returns-then-here-few g c =
    let t = still c.loop-passed.invariant.changes (here c.loop-passed.invariant.changes
    c.take_stripe-here.ensures.changes) in
    record { changes = still t (here t c.take_fallen-taken.ensures.changes) }

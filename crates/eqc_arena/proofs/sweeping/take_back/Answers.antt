use Rattle.std.proofs.Common.{arith}
use Rattle.eqc_arena.proofs.Changing.{still, here, lengths_now, begins}
use Rattle.eqc_arena.proofs.sweeping.take_back.Goals as goal

pub sweep-requires-clause-rest : goal.sweep-requires-clause-rest
sweep-requires-clause-rest g c = begins c.requires.rest c.empty_cells.ensures.changes

pub sweep-requires-clause-room : goal.sweep-requires-clause-room
sweep-requires-clause-room g c = let room = c.requires.room in
    omega (arith, lengths_now c.empty_cells.ensures.changes)

pub returns-in-Share : goal.returns-in-Share
returns-in-Share g c = record {
  changes = still c.empty_cells.ensures.changes
      (here c.empty_cells.ensures.changes c.sweep.ensures.changes);
}

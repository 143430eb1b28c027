use Rattle.std.proofs.Common.{[]}
use Rattle.eqc_arena.specs.Changing.{Exchanges}
use Rattle.eqc_arena.proofs.sweeping.sweep.Given as goal

abbrev pub invariant-loop-turn : goal.invariant-loop-turn
invariant-loop-turn g l = record { changes : Exchanges [] [] l.fn.worker l.worker }

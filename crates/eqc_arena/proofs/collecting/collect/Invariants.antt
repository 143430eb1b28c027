use Rattle.std.proofs.Common.{[]}
use Rattle.eqc_arena.specs.Changing.{Exchanges}
use Rattle.eqc_arena.specs.Emptying.{MayEmpty, IsFrom}
use Rattle.eqc_arena.proofs.collecting.collect.Given as goal

abbrev pub invariant-loop-turn : goal.invariant-loop-turn
invariant-loop-turn g l = record {
  changes : Exchanges [] [] l.fn.worker l.worker;
  tries : MayEmpty l.fn.worker.known → IsFrom l._turn l.worker.known;
}

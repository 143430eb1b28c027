use Rattle.std.proofs.Common.{◌≤◌, []}
use Rattle.eqc_arena.specs.Changing.{Exchanges}
use Rattle.eqc_arena.specs.Taking.{TakesMore}
use Rattle.eqc_arena.proofs.collecting.take_fallen.Given as goal

abbrev pub invariant-loop-try : goal.invariant-loop-try
invariant-loop-try g l = record {
  few : l.taken ≤ l._try;
  changes : Exchanges [] [] l.fn.worker l.worker;
  takes : TakesMore l.taken l.fn.worker l.worker;
}

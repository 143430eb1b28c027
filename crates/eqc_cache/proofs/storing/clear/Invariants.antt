use Rattle.std.proofs.Common.{[]}
use Rattle.eqc_cache.specs.Placing.{AreEmpty}
use Rattle.eqc_cache.specs.Storing.{Trades}
use Rattle.eqc_cache.proofs.storing.clear.Given as goal

abbrev pub invariant-loop-cell : goal.invariant-loop-cell
invariant-loop-cell l = record {
  trades : Trades [] [] l.initial.worker l.worker;
  empty : AreEmpty l.cell l.initial.worker.known l.worker.known;
}

use Rattle.std.proofs.Common.{take}
use Rattle.eqc_build.specs.Demand.{AreAdded}
use Rattle.eqc_build.proofs.demand.count.Given as goal

abbrev pub invariant-loop-k : goal.invariant-loop-k
invariant-loop-k l = AreAdded l.initial.counts.items l.counts.items (take l.k l.steps)

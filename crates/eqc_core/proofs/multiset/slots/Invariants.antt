use Rattle.std.proofs.Common.{◌≡◌, ◌++◌, drop}
use Rattle.eqc_core.specs.Words.{slots_of}
use Rattle.eqc_core.proofs.multiset.slots.Given as goal

abbrev pub invariant-loop-x : goal.invariant-loop-x
invariant-loop-x l = l.slots.items ++ slots_of (drop l.x-index l.names) ≡ slots_of l.names

use Rattle.eqc_rup.specs.Checking.{AreComplements}
use Rattle.std.proofs.Common.{take}
use Rattle.eqc_rup.proofs.falsified.Falsified.set_all_true.Given as goal

-- the complements of the literals so far are false
abbrev pub invariant-loop-l : goal.invariant-loop-l
invariant-loop-l l = AreComplements l.self (take l.l-index l.literals)

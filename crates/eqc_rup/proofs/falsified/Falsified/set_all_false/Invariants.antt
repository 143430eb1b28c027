use Rattle.std.proofs.Common.{◌≡◌, take}
use Rattle.eqc_rup.proofs.falsified.Falsified.set_all_false.Given as goal

-- the literals so far are false
abbrev pub invariant-loop-l : goal.invariant-loop-l
invariant-loop-l l = l.self ≡ take l.l-index l.literals

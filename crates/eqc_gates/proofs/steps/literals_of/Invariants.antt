use Rattle.std.proofs.Common.{◌≡◌, map, take, Some}
use Rattle.eqc_build.specs.Building.{reference_of}
use Rattle.eqc_gates.proofs.steps.literals_of.Given as goal

abbrev pub invariant-loop-c : goal.invariant-loop-c
invariant-loop-c l = map (λ x. Some x) l.found.items ≡ map (reference_of l.table) (take l.c l.steps)

use Rattle.std.proofs.Common.{◌≡◌, map, take, Some}
use Rattle.eqc_build.specs.Building.{reference_of}
use Rattle.eqc_build.proofs.building.references.Given as goal

abbrev pub invariant-loop-k : goal.invariant-loop-k
invariant-loop-k g l = map (λ r. Some r.now) l.found.items ≡ map (reference_of l.table)
    (take l.k l.steps)

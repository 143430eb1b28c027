use Rattle.std.proofs.Common.{◌≡◌, drop, map}
use Rattle.std.specs.List.{find}
use Rattle.eqc_case.specs.Warning.{is_container}
use Rattle.eqc_case.proofs.warning.container.Given as goal

-- the models that are left decide
abbrev pub invariant-loop-m : goal.invariant-loop-m
invariant-loop-m l = find (is_container (map (λ n. n.now) l.compared) l.name) (drop l.m l.library)
    ≡ find (is_container (map (λ n. n.now) l.compared) l.name) l.library

use Rattle.std.proofs.Common.{◌≡◌, map}
use Rattle.std.specs.List.{range_with_len}
use Rattle.eqc_hierarchy.specs.Hierarchy.{callees}
use Rattle.eqc_hierarchy.proofs.calls.Calls.of.Given as goal

abbrev pub invariant-loop-m : goal.invariant-loop-m
invariant-loop-m l = map (λ c. c.items) l.callees.items ≡ map (callees l.library)
    (range_with_len 0 l.m)

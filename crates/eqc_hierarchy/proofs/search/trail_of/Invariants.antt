use Rattle.std.proofs.Common.{◌≡◌, take}
use Rattle.eqc_hierarchy.specs.Searching.{on}
use Rattle.eqc_hierarchy.proofs.search.trail_of.Given as goal

abbrev pub invariant-loop-k : goal.invariant-loop-k
invariant-loop-k l = l.trail.items ≡ on (take l.k l.path)

use Rattle.std.proofs.Common.{◌≡◌, false, take}
use Rattle.std.specs.List.{list_any}
use Rattle.eqc_hierarchy.proofs.condition.first_of.Given as goal

abbrev pub invariant-loop-p : goal.invariant-loop-p
invariant-loop-p g l = list_any (g.C.Condition.test l.condition) (take l.p l.instances) ≡ false

use Rattle.std.proofs.Common.{◌≡◌, false, take}
use Rattle.eqc_hierarchy.specs.Reaching.{some_instance_in}
use Rattle.eqc_hierarchy.proofs.condition.first_instance.Given as goal

abbrev pub invariant-models : goal.invariant-models
invariant-models g l = some_instance_in l.library (take l.m-index l.models)
    (g.C.Condition.test l.condition) ≡ false

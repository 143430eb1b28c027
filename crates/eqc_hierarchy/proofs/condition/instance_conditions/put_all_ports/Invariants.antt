use Rattle.std.proofs.Common.{◌≡◌, map}
use Rattle.std.specs.List.{range_with_len}
use Rattle.eqc_hierarchy.specs.ModelFaults.{ports}
use Rattle.eqc_hierarchy.proofs.condition.instance_conditions.put_all_ports.Given as goal

abbrev pub invariant-loop-m : goal.invariant-loop-m
invariant-loop-m l = l.all.items ≡ map (ports l.library) (range_with_len 0 l.m)

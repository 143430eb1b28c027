use Rattle.std.proofs.Common.{◌≡◌, [], take, map, ℕ, List}
use Rattle.std.specs.List.{fold}
use Rattle.eqc_netlist.specs.NameSets.{with_name}
use Rattle.eqc_hierarchy.proofs.condition.instance_conditions.put_formals.Given as goal

abbrev pub invariant-pairs : goal.invariant-pairs
invariant-pairs l = l.names ≡ fold with_name [] (map (λ (pair : List ℕ × List ℕ). pair.0)
    (take l.pair-index l.pair-items))

use Rattle.std.proofs.Common.{◌≡◌, false, not, take, map, ℕ, List}
use Rattle.std.specs.List.{list_any}
use Rattle.eqc_netlist.specs.Names.{is_named}
use Rattle.eqc_hierarchy.proofs.condition.instance_conditions.has_other.Given as goal

abbrev pub invariant-pairs : goal.invariant-pairs
invariant-pairs l = list_any (λ formal. not (is_named l.names formal))
    (map (λ (pair : List ℕ × List ℕ). pair.0) (take l.pair-index l.pair-items)) ≡ false

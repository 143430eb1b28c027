use Rattle.std.proofs.Common.{◌≡◌, take}
use Rattle.std.specs.List.{fold, flat_map}
use Rattle.eqc_netlist.specs.NameSets.{with_name}
use Rattle.eqc_hierarchy.specs.Signals.{actuals}
use Rattle.eqc_hierarchy.proofs.naming.model_names.insert_actuals.Given as goal

abbrev pub invariant-instances : goal.invariant-instances
invariant-instances l = l.names ≡ fold with_name l.fn.names
    (flat_map actuals (take l.instance-index l.instances))

use Rattle.std.proofs.Common.{◌≡◌, take}
use Rattle.std.specs.List.{fold}
use Rattle.eqc_netlist.specs.NameSets.{with_name}
use Rattle.eqc_netlist.proofs.name_set.NameSet.insert_all.Given as goal

abbrev pub invariant-names : goal.invariant-names
invariant-names l = l.self ≡ fold with_name l.fn.self (take l.name-index l.names)

use Rattle.std.proofs.Common.{◌≡◌, false, take}
use Rattle.eqc_netlist.specs.Names.{has_twice}
use Rattle.eqc_pair.proofs.name_index.first_twice.Given as goal
use Rattle.eqc_netlist.proofs.NameSetLaws.{bytes_in}

abbrev pub invariant-names : goal.invariant-names
invariant-names l = record {
  added : l.set ≡ bytes_in (take l.name-index l.names);
  once : has_twice (bytes_in (take l.name-index l.names)) ≡ false;
}

use Rattle.std.proofs.Common.{◌≡◌, true, map, take}
use Rattle.eqc_pair.specs.Matched.{position_of, has_all}
use Rattle.eqc_pair.proofs.name_index.positions.Given as goal
use Rattle.eqc_netlist.proofs.NameSetLaws.{bytes_in}

abbrev pub invariant-names : goal.invariant-names
invariant-names l = record {
  each : has_all l.set (bytes_in (take l.name-index l.names)) ≡ true;
  found : l.all.items ≡ map (position_of l.set) (bytes_in (take l.name-index l.names));
}

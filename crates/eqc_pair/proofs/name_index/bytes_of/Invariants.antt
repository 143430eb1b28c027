use Rattle.std.proofs.Common.{◌≡◌, take}
use Rattle.eqc_pair.proofs.name_index.bytes_of.Given as goal
use Rattle.eqc_netlist.proofs.NameSetLaws.{bytes_in}

abbrev pub invariant-names : goal.invariant-names
invariant-names l = bytes_in l.all.items ≡ take l.name-index l.names

use Rattle.std.proofs.Common.{◌≡◌, take}
use Rattle.eqc_pair.proofs.name_index.set_of.Given as goal
use Rattle.eqc_netlist.proofs.NameSetLaws.{bytes_in}

abbrev pub invariant-names : goal.invariant-names
invariant-names l = l.set ≡ bytes_in (take l.name-index l.names)

use Rattle.std.proofs.Common.{take}
use Rattle.eqc_pair.specs.Finding.{AreUnmatched}
use Rattle.eqc_pair.proofs.unmatched.Unmatched.among.Given as goal
use Rattle.eqc_netlist.proofs.NameSetLaws.{bytes_in}

abbrev pub invariant-names : goal.invariant-names
invariant-names l = AreUnmatched l.others (bytes_in (take l.name-index l.names)) l.found

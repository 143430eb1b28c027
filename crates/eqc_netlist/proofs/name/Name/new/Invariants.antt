use Rattle.std.proofs.Common.{◌≡◌, take}
use Rattle.eqc_netlist.proofs.name.Name.new.Given as goal

abbrev pub invariant-bytes : goal.invariant-bytes
invariant-bytes l = (l.short.items ≡ take l.byte-index l.bytes) × (l.short.capacity ≡ 16)

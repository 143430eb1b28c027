use Rattle.std.proofs.Common.{◌≡◌, take}
use Rattle.eqc_blif.proofs.names.many.ManyNames.of.Given as goal

abbrev pub invariant-names : goal.invariant-names
invariant-names l = l.set.keys ≡ take l.name-index l.names

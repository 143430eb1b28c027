use Rattle.std.proofs.Common.{◌≡◌, take}
use Rattle.eqc_pair.proofs.order.narrow.Given as goal

abbrev pub invariant-numbers : goal.invariant-numbers
invariant-numbers l = l.all.items ≡ take l.number-index l.numbers

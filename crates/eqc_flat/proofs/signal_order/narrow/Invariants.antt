use Rattle.std.proofs.Common.{◌≡◌, take}
use Rattle.eqc_flat.proofs.signal_order.narrow.Given as goal

abbrev pub invariant-loop-k : goal.invariant-loop-k
invariant-loop-k l = l.all.items ≡ take l.k l.numbers

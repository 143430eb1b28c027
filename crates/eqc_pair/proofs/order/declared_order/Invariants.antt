use Rattle.std.proofs.Common.{◌≡◌}
use Rattle.std.specs.List.{range_with_len}
use Rattle.eqc_pair.proofs.order.declared_order.Given as goal

abbrev pub invariant-numbers : goal.invariant-numbers
invariant-numbers l = l.numbers.items ≡ range_with_len 0 l.number

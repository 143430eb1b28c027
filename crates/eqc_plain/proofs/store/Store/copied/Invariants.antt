use Rattle.std.proofs.Common.{◌≤◌, ◌-◌, length}
use Rattle.eqc_plain.specs.Copying.{IsCopying}
use Rattle.eqc_plain.proofs.store.Store.copied.Given as goal

abbrev pub invariant-places : goal.invariant-places
invariant-places l = record {
  copying : IsCopying l.self l.reached.keys l.numbers.items l.copy;
  upto : length l.numbers.items ≤ length l.reached.keys;
}

abbrev pub decreases-places : goal.decreases-places
decreases-places l = length l.reached.keys - length l.numbers.items

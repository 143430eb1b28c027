use Rattle.std.proofs.Common.{◌≡◌}
use Rattle.eqc_core.specs.State.{slots_from}
use Rattle.eqc_core.proofs.stock.first_slots.Given as goal

abbrev pub invariant-loop-k : goal.invariant-loop-k
invariant-loop-k l = l.slots.items ≡ slots_from 2 l.k

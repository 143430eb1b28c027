use Rattle.std.proofs.Common.{◌≡◌}
use Rattle.eqc_core.specs.State.{stripe_entries}
use Rattle.eqc_core.proofs.stock.literal_table.Given as goal

abbrev pub invariant-loop-k : goal.invariant-loop-k
invariant-loop-k l = l.table.entries.items ≡ stripe_entries l.s 0 l.k

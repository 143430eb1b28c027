use Rattle.std.proofs.Common.{◌≡◌, length}
use Rattle.eqc_witness.proofs.least.values_told.Given as goal

abbrev pub invariant-loop-variable-2 : goal.invariant-loop-variable-2
invariant-loop-variable-2 l = length l.values.items ≡ l.variable-index

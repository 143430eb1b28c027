use Rattle.std.proofs.Common.{◌≡◌, length}
use Rattle.eqc_miter.proofs.entering.unmarked.Given as goal

abbrev pub invariant-loop-output : goal.invariant-loop-output
invariant-loop-output l = length l.wanted.items ≡ l.output

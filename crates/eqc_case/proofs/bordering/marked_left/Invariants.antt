use Rattle.std.proofs.Common.{◌≡◌, length}
use Rattle.eqc_case.proofs.bordering.marked_left.Given as goal

abbrev pub invariant-loop-output : goal.invariant-loop-output
invariant-loop-output l = length l.marks.items ≡ l.output

use Rattle.std.proofs.Common.{◌≡◌, length}
use Rattle.eqc_case.proofs.locating.marked.Given as goal

abbrev pub invariant-loop-position : goal.invariant-loop-position
invariant-loop-position l = length l.marks.items ≡ length l.pair.first.outputs

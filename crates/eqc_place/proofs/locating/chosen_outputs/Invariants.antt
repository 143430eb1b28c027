use Rattle.std.proofs.Common.{◌≡◌, length}
use Rattle.eqc_place.proofs.locating.chosen_outputs.Given as goal

abbrev pub invariant-loop-output : goal.invariant-loop-output
invariant-loop-output l = length l.marks.items ≡ l.output

use Rattle.std.proofs.Common.{◌≡◌, length}
use Rattle.eqc_datapath.proofs.adding.of_words.Given as goal

abbrev pub invariant-words : goal.invariant-words
invariant-words l = length l.marks.items ≡ l.outputs

abbrev pub invariant-loop-output : goal.invariant-loop-output
invariant-loop-output l = length l.marks.items ≡ l.outputs

use Rattle.std.proofs.Common.{◌≡◌, length}
use Rattle.eqc_compare.proofs.AlikeLaws.{TellFirst}
use Rattle.eqc_compare.proofs.alike.outputs_of_one_class.Given as goal

abbrev pub invariant-loop-output : goal.invariant-loop-output
invariant-loop-output l = (length l.marks.items ≡ l.output)
    × TellFirst l.fn.pair l.marks.items l.output

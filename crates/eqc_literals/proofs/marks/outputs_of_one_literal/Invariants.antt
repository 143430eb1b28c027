use Rattle.std.proofs.Common.{◌≡◌, length}
use Rattle.eqc_literals.proofs.LiteralLaws.{AreEqualBelow, AreKeptBelow}
use Rattle.eqc_literals.proofs.marks.outputs_of_one_literal.Given as goal

abbrev pub invariant-loop-output : goal.invariant-loop-output
invariant-loop-output l = (length l.more.items ≡ l.output)
    × AreEqualBelow l.fn.steps.pair l.more.items l.output
    × AreKeptBelow l.marks l.more.items l.output

use Rattle.std.specs.List.{All}
use Rattle.eqc_report.specs.Left.{IsWordLeft}
use Rattle.eqc_report.proofs.undecided.words_left.Given as goal

abbrev pub invariant-loop-output : goal.invariant-loop-output
invariant-loop-output l = All (IsWordLeft l.pair l.marks) l.words.items

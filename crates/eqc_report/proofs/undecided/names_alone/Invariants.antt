use Rattle.std.proofs.Common.{map}
use Rattle.std.specs.List.{All}
use Rattle.eqc_report.specs.Left.{IsNameWhere, is_alone}
use Rattle.eqc_report.proofs.undecided.names_alone.Given as goal

abbrev pub invariant-loop-output : goal.invariant-loop-output
invariant-loop-output l = All (IsNameWhere l.pair (is_alone l.pair l.marks l.words))
    (map (λ name. name.items) l.names.items)

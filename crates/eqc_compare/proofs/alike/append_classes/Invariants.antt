use Rattle.std.proofs.Common.{◌≡◌, ◌++◌, map, get_or, take}
use Rattle.eqc_compare.proofs.alike.append_classes.Given as goal

abbrev pub invariant-loop-k : goal.invariant-loop-k
invariant-loop-k l = l.row.items ≡ l.initial.row.items ++ map (λ s. get_or l.numbers s 0)
    (take l.k l.signals)

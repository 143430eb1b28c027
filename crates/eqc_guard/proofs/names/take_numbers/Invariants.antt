use Rattle.std.proofs.Common.{◌≡◌, ◌∷◌, drop}
use Rattle.eqc_core.specs.Moves.{without_each}
use Rattle.eqc_guard.proofs.names.take_numbers.Given as goal

abbrev pub invariant-loop-x : goal.invariant-loop-x
invariant-loop-x l = without_each (drop l.x-index l.more) l.out.items ≡ without_each (l.from
    ∷ l.more) l.fn.out.items

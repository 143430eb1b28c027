use Rattle.std.proofs.Common.{◌≡◌, drop}
use Rattle.eqc_core.specs.Moves.{without_each}
use Rattle.eqc_core.proofs.multiset.remove_each.Given as goal

abbrev pub invariant-loop-x : goal.invariant-loop-x
invariant-loop-x l = without_each (drop l.x-index l.gone) l.names.items
    ≡ without_each l.gone l.initial.names.items

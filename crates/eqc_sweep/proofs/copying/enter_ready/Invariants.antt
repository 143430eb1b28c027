use Rattle.std.specs.Prelude.{◌<◌, length}
use Rattle.std.specs.List.{All}
use Rattle.eqc_sweep.proofs.CopyingLemmas.{IsEntering}
use Rattle.eqc_sweep.proofs.copying.enter_ready.Given as goal

abbrev pub invariant-nodes : goal.invariant-nodes
invariant-nodes o l = IsEntering l.graph l.fn.sweep l.sweep l.table.items
    × All (λ k. k < length l.graph) l.waiting.items

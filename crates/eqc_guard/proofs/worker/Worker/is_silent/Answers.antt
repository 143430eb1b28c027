use Rattle.std.proofs.Common.{◌≡◌, ◌<◌, ℕ, List, sym, subst}
use mathlib.Core.Option.{some}
use lib.ListN.{get_elem?}
use Rattle.eqc_core.specs.declared.phase.Phase.{Phase}
use Rattle.eqc_core.specs.Moves.{IsQuiet}
use Rattle.eqc_guard.specs.Standing.{Standing}
use Rattle.eqc_guard.proofs.worker.Worker.is_silent.Goals as goal

-- none of these phases but the first announces a name
abbrev are_silent : List Phase → Type 0
are_silent ps = (k : ℕ) (p : Phase) → 0 < k → get_elem? ps k ≡ some p → IsQuiet p

pub returns : goal.returns
returns c =
    let same : c.args.self.now.known.core.phases ≡ c.self.inside.phases.items =
    subst (λ (s : Standing). s.known.core.phases ≡ c.self.inside.phases.items) c.self.view_is
    c.self.invariant.phases_are in (
      (λ t. subst are_silent (sym same) (c.are_silent.ensures.0 t)),
      (λ silent. c.are_silent.ensures.1 (subst are_silent same silent)),
    )

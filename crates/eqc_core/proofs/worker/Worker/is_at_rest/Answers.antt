use Rattle.std.proofs.Common.{◌≡◌, ℕ, List, refl, sym, subst, None}
use mathlib.Core.Option.{some}
use lib.ListN.{get_elem?}
use Rattle.eqc_core.specs.declared.phase.Phase.{Phase}
use Rattle.eqc_core.specs.Moves.{IsQuiet}
use Rattle.eqc_core.proofs.Stored.{at_rest, is_none}
use Rattle.eqc_core.proofs.worker.Worker.is_at_rest.Goals as goal

-- none of these phases announces a name
abbrev are_quiet : List Phase → Type 0
are_quiet ps = (k : ℕ) (p : Phase) → get_elem? ps k ≡ some p → IsQuiet p

pub returns-then-self-eq0 : goal.returns-then-self-eq0
returns-then-self-eq0 c = λ z.
    let w = c.args.self.now in
    let draft : w.draft ≡ None = is_none w.draft (let a = c.is_some.ensures in let b =
    c.if-is_some.false in cc) in
    let hand : w.hand ≡ None = is_none w.hand (let a = c.is_some-2.ensures in let b =
    c.if-is_some-2.false in cc) in (
      (λ t. at_rest z w c.if-self-eq0.true (subst are_quiet c.deref.ensures.value
          (c.are_quiet.ensures.0 t)) draft hand),
      (λ r. c.are_quiet.ensures.1 (subst are_quiet (sym c.deref.ensures.value) r.quiet)),
    )

use Rattle.std.proofs.Common.{◌<◌, length, sym, subst, refl, arith}
use Rattle.eqc_core.specs.declared.phase.Phase.{Phase}
use Rattle.eqc_core.specs.declared.phase.Phase.TheVariants.{Idle}
use Rattle.eqc_core.specs.Moves.{IsQuiet}
use Rattle.eqc_core.proofs.Lists.{get_at, at_get, at_below}
use Rattle.eqc_core.proofs.phase.are_quiet.Goals as goal

pub returns-then-not-is_quiet : goal.returns-then-not-is_quiet
returns-then-not-is_quiet c =
    let i = c.loop-phase.phase-index in
    let here = get_at c.args.phases.now i Idle (let lt = c.loop-phase-test.true in omega arith) in
    ((λ t. absurd (cc)), (λ all. absurd (let q = c.if-not-is_quiet.ensures.1 (all i _ here) in cc)))

pub returns : goal.returns
returns c =
    let ps = c.args.phases.now in (
      (λ t k p at.
          let lt : k < c.loop-phase.phase-index = (let b = at_below ps k p at in let past =
          c.loop-phase-test.false in omega arith) in
          subst (λ (q : Phase). IsQuiet q) (at_get ps k p Idle at) (c.loop-phase.invariant k lt)),
      (λ all. refl),
    )

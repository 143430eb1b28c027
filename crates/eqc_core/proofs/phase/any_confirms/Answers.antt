use Rattle.std.proofs.Common.{◌<◌, length, ap, refl, ◌∙◌, arith}
use mathlib.Core.Option.{some}
use Rattle.eqc_core.specs.declared.phase.Phase.TheVariants.{Idle, Confirmed}
use Rattle.eqc_core.proofs.Lists.{get_at, at_get, at_below}
use Rattle.eqc_core.proofs.phase.any_confirms.Goals as goal

pub returns-then-confirms : goal.returns-then-confirms
returns-then-confirms c =
    let i = c.loop-phase.phase-index in
    let here = get_at c.args.phases.now i Idle (let lt = c.loop-phase-test.true in omega arith) in
    ((λ t. (i, here ∙ ap some (c.if-confirms.ensures.0 refl))), (λ k. refl))

pub returns : goal.returns
returns c =
    let ps = c.args.phases.now in (
      (λ t. absurd (cc)),
      (λ q. absurd (c.loop-phase.invariant q.0 (let lt = at_below ps q.0 (Confirmed c.args.x) q.1 in
          let past = c.loop-phase-test.false in omega arith) (at_get ps q.0 (Confirmed c.args.x)
          Idle q.1))),
    )

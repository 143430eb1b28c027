use Rattle.std.proofs.Common.{◌≡◌, ◌<◌, List, length, get_or, ap, subst, refl, ◌∙◌, arith}
use mathlib.Core.Option.{some}
use lib.ListN.{get_elem?}
use Rattle.eqc_core.specs.declared.phase.Phase.{Phase}
use Rattle.eqc_core.specs.declared.phase.Phase.TheVariants.{Idle}
use Rattle.eqc_core.specs.Moves.{IsQuiet}
use Rattle.eqc_core.proofs.Lists.{get_at, at_get, at_below}
use Rattle.eqc_guard.proofs.phases.are_silent.Goals as goal

pub returns-then-not-is_quiet : goal.returns-then-not-is_quiet
returns-then-not-is_quiet c =
    let all = c.as_slice-all.result.now in
    let i = c.loop-k.k in
    let here : get_elem? c.args.phases.now.items i ≡ some (get_or all i Idle) =
    subst (λ (ps : List Phase). get_elem? ps i ≡ some (get_or all i Idle))
    c.as_slice-all.ensures.value (get_at all i Idle (let lt = c.loop-k-test.true in
    omega arith)) in (
      (λ t. absurd (cc)),
      (λ quiet. absurd (let q =
          c.if-not-is_quiet.ensures.1 (quiet i _ (let from = c.loop-k.auto.k in omega arith) here) in
          cc)),
    )

pub returns : goal.returns
returns c =
    let ps = c.args.phases.now.items in
    let same = c.as_slice-all.ensures.value in (
      (λ t k p from at.
          let lt : k < c.loop-k.k = (let b = at_below ps k p at in let past = c.loop-k-test.false in
          let e = ap length same in omega arith) in
          subst (λ (q : Phase). IsQuiet q) (ap (λ (l : List Phase). get_or l k Idle) same
          ∙ at_get ps k p Idle at) (c.loop-k.invariant k from lt)),
      (λ all. refl),
    )

use Rattle.std.proofs.Common.{List, get_or, sym, subst, arith}
use Rattle.eqc_core.specs.declared.phase.Phase.{Phase}
use Rattle.eqc_core.specs.declared.phase.Phase.TheVariants.{Idle}
use Rattle.eqc_core.specs.Moves.{IsQuiet}
use Rattle.eqc_guard.proofs.phases.free_word.Goals as goal

pub returns-then-is_quiet-clause-some : goal.returns-then-is_quiet-clause-some
returns-then-is_quiet-clause-some c =
    let from = c.loop-k.auto.k in
    let lt = c.loop-k-test.true in
    let same = c.as_slice-all.ensures.value in (
      omega arith,
      omega arith,
      subst (λ (ps : List Phase). IsQuiet (get_or ps c.loop-k.k Idle)) same
          (c.is_quiet.ensures.0 c.if-is_quiet.true),
    )

pub returns-clause-none : goal.returns-clause-none
returns-clause-none c = λ e j from lt.
    let past = c.loop-k-test.false in
    let same = c.as_slice-all.ensures.value in
    λ quiet. c.loop-k.invariant j from (omega arith)
    (subst (λ (ps : List Phase). IsQuiet (get_or ps j Idle)) (sym same) quiet)

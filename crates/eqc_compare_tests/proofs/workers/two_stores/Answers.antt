use Rattle.std.proofs.Common.{◌≤◌, arith, All, ◌++◌, ◌∷◌, []}
use Rattle.std.proofs.lemmas.List.Elements.{All-push}
use Rattle.eqc_plain.specs.Extending.{holding_in}
use Rattle.eqc_plain.specs.declared.plain.Plain.{Plain}
use Rattle.eqc_compare_tests.proofs.workers.two_stores.Goals as goal

pub loop-preserved : goal.loop-preserved
loop-preserved c =
    let Fits : Plain → Type 0 = λ p. c.args.inputs ≤ (holding_in p.store).variables in
    let fits : Fits c.in_ok-new.field-0 = omega (arith, c.in_ok-new.ensures.empty.variables) in
    let all : All Fits (c.loop.all.items ++ c.in_ok-new.field-0 ∷ []) =
    All-push Fits c.loop.all.items c.in_ok-new.field-0 c.loop.invariant.1 fits in (
      omega (arith, c.in-Ok.ensures.len, c.loop.invariant.0),
      rw c.in-Ok.ensures.items all,
    )

pub returns-clause-variables : goal.returns-clause-variables
returns-clause-variables c = c.loop.invariant.1

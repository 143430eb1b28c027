use Rattle.std.proofs.Common.{◌∷◌, ◌++◌, [], refl}
use Rattle.eqc_build.specs.Steps.{value_at}
use Rattle.eqc_literals.proofs.MovingLaws.{literal_has, moved_more}
use Rattle.eqc_literals.proofs.moving.moved.Goals as goal

pub loop-literal-preserved : goal.loop-literal-preserved
loop-literal-preserved c =
    let all = c.loop-literal.all.items in
    let x = c.moved_one.result in
    let k = c.loop-literal.literal-index in
    rw c.in_ok-push.ensures.items (
    moved_more c.args.literals.now c.args.table.now all (all ++ x ∷ []) k x
    c.loop-literal.invariant
    (λ p old new are copies. c.moved_one.ensures old new (λ a. value_at p a k) copies
    (literal_has p old c.args.literals.now k _ are refl)) refl
    )

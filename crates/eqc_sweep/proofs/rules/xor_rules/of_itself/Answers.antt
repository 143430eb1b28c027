use Rattle.std.proofs.Common.{arith, refl}
use Rattle.eqc_sweep.proofs.GateLemmas.{opposite_of}
use Rattle.eqc_sweep.proofs.XorLemmas.{differ_same, differ_opposite, differ_zero, differ_one}
use Rattle.eqc_sweep.proofs.XorLemmas.{differ_commuted}
use Rattle.eqc_sweep.proofs.rules.xor_rules.of_itself.Goals as goal

pub returns-then-x-y : goal.returns-then-x-y
returns-then-x-y c nodes g _ _ = differ_same nodes c.args.x c.args.y g c.if-x-y.true

pub returns-then-are_opposite : goal.returns-then-are_opposite
returns-then-are_opposite c nodes g _ _ = differ_opposite nodes c.args.x c.args.y g
    (c.if-are_opposite.ensures refl)

pub returns-then-x-eq0 : goal.returns-then-x-eq0
returns-then-x-eq0 c nodes g _ y = differ_zero nodes c.args.x c.args.y g y c.if-x-eq0.true

pub returns-else-x-eq0 : goal.returns-else-x-eq0
returns-else-x-eq0 c nodes g _ y =
    differ_one nodes c.args.x c.args.y c.negated.result g y (omega (
      arith,
      c.if-x-lt2.true,
      c.if-x-eq0.false,
    )) (opposite_of c.args.y c.negated.result c.negated.ensures.node
    c.negated.ensures.value)

pub returns-then-y-eq0 : goal.returns-then-y-eq0
returns-then-y-eq0 c nodes g x _ =
    differ_commuted nodes c.args.x c.args.y _ (differ_zero nodes c.args.y c.args.x g x
    c.if-y-eq0.true)

pub returns-else-y-eq0 : goal.returns-else-y-eq0
returns-else-y-eq0 c nodes g x _ =
    differ_commuted nodes c.args.x c.args.y _
    (differ_one nodes c.args.y c.args.x c.negated-else-y-eq0.result g x
    (omega (arith, c.if-y-lt2.true, c.if-y-eq0.false))
    (opposite_of c.args.x c.negated-else-y-eq0.result c.negated-else-y-eq0.ensures.node
    c.negated-else-y-eq0.ensures.value))

use Rattle.std.proofs.Common.{refl}
use Rattle.eqc_sweep.proofs.AndLemmas.{and_same, and_zero, and_one, and_commuted, and_opposite}
use Rattle.eqc_sweep.proofs.rules.and_rules.of_itself.Goals as goal
use Rattle.eqc_sweep.proofs.rules.and_rules.of_itself.Goals.{then-x-y-via-then-x-y}
use Rattle.eqc_sweep.proofs.rules.and_rules.of_itself.Goals.{then-x-y-via-else-x-y+then-x-eq0}
use Rattle.eqc_sweep.proofs.rules.and_rules.of_itself.Goals.{then-x-y-via-else-x-y+else-x-eq0+then-y-eq1}
use Rattle.eqc_sweep.proofs.rules.and_rules.of_itself.Goals.{then-y-eq0-via-then-y-eq0}
use Rattle.eqc_sweep.proofs.rules.and_rules.of_itself.Goals.{then-y-eq0-via-else-y-eq0+then-x-eq1}

pub returns-then-x-y : goal.returns-then-x-y
returns-then-x-y c nodes g x y =
    elim c.then-x-y.branch [
      | then-x-y-via-then-x-y w ↦ and_same nodes c.args.x c.args.y x w.if-x-y.true
      | then-x-y-via-else-x-y+then-x-eq0 w ↦ and_zero nodes c.args.x c.args.y g x w.if-x-eq0.true
      | then-x-y-via-else-x-y+else-x-eq0+then-y-eq1 w ↦ and_one nodes c.args.x c.args.y g x
          w.if-y-eq1.true
    ]

pub returns-then-y-eq0 : goal.returns-then-y-eq0
returns-then-y-eq0 c nodes g x y =
    elim c.then-y-eq0.branch [
      | then-y-eq0-via-then-y-eq0 w ↦ and_commuted nodes c.args.x c.args.y _
          (and_zero nodes c.args.y c.args.x g y w.if-y-eq0.true)
      | then-y-eq0-via-else-y-eq0+then-x-eq1 w ↦ and_commuted nodes c.args.x c.args.y _
          (and_one nodes c.args.y c.args.x g y w.if-x-eq1.true)
    ]

pub returns-then-are_opposite : goal.returns-then-are_opposite
returns-then-are_opposite c nodes g x y = and_opposite nodes c.args.x c.args.y g
    (c.if-are_opposite.ensures refl)

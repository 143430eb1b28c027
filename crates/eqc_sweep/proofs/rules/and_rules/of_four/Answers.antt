use Rattle.std.proofs.Common.{refl}
use Rattle.eqc_sweep.proofs.AndLemmas.{four_first, four_second}
use Rattle.eqc_sweep.proofs.rules.and_rules.of_four.Goals as goal

pub returns-then-excludes : goal.returns-then-excludes
returns-then-excludes c x y nodes g _ _ m n =
    four_first nodes x c.args.p c.args.q y c.args.r c.args.s g m n (c.if-excludes.ensures refl)

pub returns-then-excludes-2 : goal.returns-then-excludes-2
returns-then-excludes-2 c x y nodes g _ _ m n =
    four_second nodes x c.args.p c.args.q y c.args.r c.args.s g m n (c.if-excludes-2.ensures refl)

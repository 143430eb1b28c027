use Rattle.std.proofs.Common.{refl}
use Rattle.eqc_sweep.proofs.AndLemmas.{both_excluded}
use Rattle.eqc_sweep.proofs.rules.and_rules.of_both.Goals as goal

pub returns-then-excludes : goal.returns-then-excludes
returns-then-excludes c nodes g _ _ m = both_excluded nodes c.args.x c.args.p c.args.q c.args.y g m
    (c.if-excludes.ensures refl)

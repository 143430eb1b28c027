use Rattle.std.proofs.Common.{refl}
use Rattle.eqc_cover.proofs.HeldLaws.{keeps_twice}
use Rattle.eqc_parallel.proofs.help.help_once.Goals as goal

pub loop-init : goal.loop-init
loop-init g c = record { variables = refl; held = λ e. refl }

pub returns-then-help : goal.returns-then-help
returns-then-help g c = record { kept = keeps_twice _ _ _ c.loop.invariant c.help.ensures.kept }

pub loop-preserved : goal.loop-preserved
loop-preserved g c = keeps_twice _ _ _ c.loop.invariant c.help.ensures.kept

pub returns : goal.returns
returns g c = record { kept = c.loop.invariant }

use Rattle.std.proofs.Common.{refl}
use Rattle.eqc_cover.proofs.HeldLaws.{keeps_twice}
use Rattle.eqc_parallel.proofs.help.help_others.Goals as goal

pub loop-init : goal.loop-init
loop-init g c = record { variables = refl; held = λ e. refl }

pub returns-then-not-help_once : goal.returns-then-not-help_once
returns-then-not-help_once g c =
    record { kept = keeps_twice _ _ _ c.loop.invariant c.help_once.ensures.kept }

pub loop-preserved : goal.loop-preserved
loop-preserved g c = keeps_twice _ _ _ c.loop.invariant c.help_once.ensures.kept

use Rattle.std.proofs.Common.{◌≡◌, map}
use Rattle.eqc_engine.proofs.watched.all_watched.Given as goal

abbrev pub invariant-loop-diagrams : goal.invariant-loop-diagrams
invariant-loop-diagrams g l = map (λ w. w.diagrams) l.all.items ≡ l.yielded

use Rattle.std.proofs.Common.{◌≡◌, length}
use Rattle.eqc_place.proofs.trial.Trial.mendings.Given as goal

abbrev pub invariant-loop-k : goal.invariant-loop-k
invariant-loop-k l = length l.each.items ≡ l.k

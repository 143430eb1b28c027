use Rattle.std.proofs.Common.{◌≡◌, length}
use Rattle.eqc_witness.proofs.trials.Trials.near.Given as goal

-- what is best so far has a value for each position
abbrev pub invariant-rounds : goal.invariant-rounds
invariant-rounds l = length l.best.items ≡ l.cone.positions

use Rattle.std.proofs.Common.{◌≤◌, length}
use Rattle.eqc_diagnosis.proofs.signal.positions_of.Given as goal

abbrev pub invariant-up : goal.invariant-up
invariant-up l = l.at ≤ length l.flat.places

abbrev pub decreases-up : goal.decreases-up
decreases-up l = l.at

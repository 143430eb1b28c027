use Rattle.std.proofs.Common.{◌≡◌, ℕ, ◌<◌, false, nat_eq, get_or}
use Rattle.eqc_witness.proofs.copying.position_of.Given as goal

abbrev pub invariant-loop-position : goal.invariant-loop-position
invariant-loop-position l = (k : ℕ) → k < l.position → nat_eq (get_or l.variables k 0) l.variable
    ≡ false

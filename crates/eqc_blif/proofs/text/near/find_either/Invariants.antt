use Rattle.std.proofs.Common.{◌≡◌, ℕ, ◌<◌, get_or, false}
use Rattle.eqc_blif.specs.Steps.{is_either}
use Rattle.eqc_blif.proofs.text.near.find_either.Given as goal

abbrev pub invariant-loop-i : goal.invariant-loop-i
invariant-loop-i g l = (k : ℕ) → k < l.i → is_either g.row.A g.row.B (get_or l.bytes k 0) ≡ false

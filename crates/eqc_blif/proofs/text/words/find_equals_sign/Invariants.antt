use Rattle.std.proofs.Common.{◌≡◌, ℕ, ◌<◌, get_or, false}
use Rattle.eqc_blif.specs.Words.{is_equals_sign}
use Rattle.eqc_blif.proofs.text.words.find_equals_sign.Given as goal

abbrev pub invariant-loop-i : goal.invariant-loop-i
invariant-loop-i l = (k : ℕ) → k < l.i → is_equals_sign (get_or l.word k 0) ≡ false

use Rattle.std.proofs.Common.{◌≡◌, ℕ, ◌<◌, get_or}
use Rattle.eqc_sums.proofs.form.Form.is_zero.Given as goal

abbrev pub invariant-loop-k : goal.invariant-loop-k
invariant-loop-k l = (k : ℕ) → k < l.k → (k ≡ 0 → ⊥) → get_or l.self.coefficients.items k 0 ≡ 0

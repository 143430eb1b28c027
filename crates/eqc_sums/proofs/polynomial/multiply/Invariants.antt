use Rattle.std.proofs.Common.{ℕ, ◌+◌, ◌*◌, Bool, take}
use Rattle.eqc_xag.specs.Graph.{literal_value, Extends}
use Rattle.eqc_sums.specs.Forms.{terms_sum, HasSum}
use Rattle.eqc_sums.proofs.polynomial.multiply.Given as goal

abbrev pub invariant-loop-term : goal.invariant-loop-term
invariant-loop-term l = record {
  extends : Extends l.fn.sweep l.sweep;
  sum : (h : (ℕ → Bool) → ℕ) → HasSum l.fn.sweep l.fn.out.items h
      → HasSum l.sweep l.out.items (λ a. h a + l.factor * (terms_sum (literal_value l.fn.sweep a)
      (take l.term-index l.first) * terms_sum (literal_value l.fn.sweep a) l.second));
}

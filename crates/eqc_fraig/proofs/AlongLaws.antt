-- Steps that are chosen in place of those that are chosen first.
use Rattle.std.proofs.Common.{◌≡◌, ℕ, ◌+◌, ◌<◌, ◌≤◌, Bool, List, [], ◌∷◌, ◌++◌, length, get_or}
use Rattle.std.proofs.Common.{refl, sym, ◌∙◌, ap, arith, inl, inr}
use Rattle.std.proofs.lemmas.List.{get_or_append_left, length-append}
use Rattle.std.proofs.Math.Seq.{get_or-append_seam}
use Rattle.std.proofs.lemmas.Bool.{cases_eq}
use Rattle.eqc_pair.specs.PairOf.{PairOf}
use Rattle.eqc_build.specs.Steps.{IsChoice, chosen_for, steps_in, value_at}

-- in place of the first n steps steps of their values are chosen
pub record IsAlong (p : PairOf) (more : List ℕ) (n : ℕ) : Type 0 where
  pub size : length more ≡ n
  pub early : (k : ℕ) → k < n → chosen_for more k ≤ k
  pub same : (k : ℕ) (a : ℕ → Bool) → k < n → value_at p a (chosen_for more k) ≡ value_at p a k

pub along_begins : (p : PairOf) → IsAlong p [] 0
along_begins p = record {
  size = refl;
  early = λ k lt. absurd (omega arith);
  same = λ k a lt. absurd (omega arith);
}

-- one step more
pub along_more : (p : PairOf) (first then more : List ℕ) (n step next : ℕ) → IsChoice p first
    → IsChoice p then → n < steps_in p → step ≡ chosen_for first n → next ≡ chosen_for then step
    → IsAlong p more n → IsAlong p (more ++ next ∷ []) (n + 1)
along_more p first then more n step next one other inside by is m = record {
  size = omega (arith, m.size, length-append more (next ∷ []));
  early = λ k lt. elim (cases_eq k n) [
    | inl e ↦ omega (arith, ap (chosen_for (more ++ next ∷ [])) e, at_end, low, e)
    | inr apart ↦ omega (
      arith,
      old k (omega (arith, lt, apart)),
      m.early k (omega (arith, lt, apart)),
    )
  ];
  same = λ k a lt. elim (cases_eq k n) [
    | inl e ↦ ap (λ i. value_at p a (chosen_for (more ++ next ∷ []) i)) e
        ∙ (ap (value_at p a) at_end ∙ (value a ∙ sym (ap (value_at p a) e)))
    | inr apart ↦ ap (value_at p a) (old k (omega (arith, lt, apart)))
        ∙ m.same k a (omega (arith, lt, apart))
  ];
}
  where
    early_step : step ≤ n
    early_step = omega (arith, by, one.early n inside)

    within : step < steps_in p
    within = omega (arith, early_step, inside)

    low : next ≤ n
    low = omega (arith, is, other.early step within, early_step)

    at_end : chosen_for (more ++ next ∷ []) n ≡ next
    at_end = ap (λ i. get_or (more ++ next ∷ []) i n) (sym m.size)
        ∙ get_or-append_seam more next [] n

    old : (k : ℕ) → k < n → chosen_for (more ++ next ∷ []) k ≡ chosen_for more k
    old k lt = get_or_append_left more (next ∷ []) k k (omega (arith, lt, m.size))

    value : (a : ℕ → Bool) → value_at p a next ≡ value_at p a n
    value a = ap (value_at p a) is ∙ (other.same step a within
        ∙ (ap (value_at p a) by ∙ one.same n a inside))

pub along_all : (p : PairOf) (more : List ℕ) → IsAlong p more (steps_in p) → IsChoice p more
along_all p more m = record { early = m.early; same = m.same }

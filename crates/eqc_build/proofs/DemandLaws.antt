-- What steps are needed for, and how often they are used.
use Rattle.std.proofs.Common.{◌≡◌, ℕ, suc, ◌+◌, ◌<◌, ◌≤◌, List, [], ◌∷◌, ◌++◌, if◌then◌else◌}
use Rattle.std.proofs.Common.{replicate, ltb, nat_eq, ne_eqb, length, get_or, set, take, refl, sym}
use Rattle.std.proofs.Common.{◌∙◌, ap, arith, inl, inr, subst}
use Rattle.std.proofs.lemmas.Bool.{cases_eq, cases_lt, eq-eqb, lt-ltb}
use Rattle.std.proofs.lemmas.List.{get_or-set_same, get_or-set_other, get_or_append_left}
use Rattle.std.proofs.lemmas.List.{get_or-replicate, get_or_past, length-append, length-replicate}
use Rattle.std.proofs.lemmas.List.{take_more, take_all}
use Rattle.std.proofs.lemmas.List.Sums.{sum_by-cons, sum_by-append, sum_by_push}
use Rattle.std.proofs.Math.ListN.{length-set}
use Rattle.std.proofs.Math.Seq.{get_or-append_seam}
use Rattle.eqc_build.specs.Steps.{StepsOf, uses_of}
use Rattle.eqc_build.specs.Demand.{AreAdded, AreCounted, IsCounted, IsOfUse, needed_uses}
use Rattle.eqc_build.specs.Demand.{occurrences, one_if, uses_by}
use Rattle.eqc_build.specs.declared.plan.Plan.{Plan}

pub counted_none : (a : ℕ) → IsCounted a a 0
counted_none a = record { most = omega arith; exact = λ h. omega arith }

pub counted_twice : (a b c n m : ℕ) → b ≤ c → IsCounted a b n → IsCounted b c m
    → IsCounted a c (n + m)
counted_twice a b c n m le p q = record {
  most = omega (arith, p.most, q.most);
  exact =
      λ h. omega (arith, p.exact (omega arith), q.exact h);
}

-- one step of a list more
occurrences_more : (s : ℕ) (steps : List ℕ) (k : ℕ) → k < length steps
    → occurrences s (take (k + 1) steps) ≡ occurrences s (take k steps)
    + one_if (nat_eq s (get_or steps k 0))
occurrences_more s steps k lt = ap (occurrences s) (take_more steps k 0 lt)
    ∙ sum_by_push (λ x. one_if (nat_eq s x)) (take k steps) (get_or steps k 0)

more_same : (s x : ℕ) → s ≡ x → one_if (nat_eq s x) ≡ 1
more_same s x same = rw (eq-eqb s x same) refl

more_apart : (s x : ℕ) → (s ≡ x → ⊥) → one_if (nat_eq s x) ≡ 0
more_apart s x apart = rw (ne_eqb s x apart) refl

pub added_none : (counts steps : List ℕ) → AreAdded counts counts (take 0 steps)
added_none counts steps = record {
  size = refl;
  grown = λ s. omega arith;
  counted = λ s inside. counted_none (get_or counts s 0);
}

-- a step without a place, or whose count stays
pub added_same : (old mid steps : List ℕ) (k : ℕ) → k < length steps →
    (get_or steps k 0 < length mid → get_or mid (get_or steps k 0) 0 < 4294967295 → ⊥)
    → AreAdded old mid (take k steps) →
    AreAdded old mid (take (k + 1) steps)
added_same old mid steps k lt full a = record {
  size = a.size;
  grown = a.grown;
  counted = λ s inside. elim (cases_eq s (get_or steps k 0)) [
    | inl same ↦ record {
      most = omega (arith, (a.counted s inside).most, occurrences_more s steps k lt);
      exact = λ low. absurd (full (omega (arith, same, inside, a.size))
          (omega (arith, low, ap (λ j. get_or mid j 0) same)));
    }
    | inr apart ↦ subst (IsCounted (get_or old s 0) (get_or mid s 0))
        (sym (omega (arith, occurrences_more s steps k lt, more_apart s (get_or steps k 0) apart)))
        (a.counted s inside)
  ];
}

pub added_more : (old mid steps : List ℕ) (k : ℕ) → k < length steps → get_or steps k 0 < length mid
    →
    get_or mid (get_or steps k 0) 0 < 4294967295 → AreAdded old mid (take k steps) →
    AreAdded old (set mid (get_or steps k 0) (get_or mid (get_or steps k 0) 0 + 1))
    (take (k + 1) steps)
added_more old mid steps k lt inside low a = record {
  size = length-set mid x (get_or mid x 0 + 1) ∙ a.size;
  grown = λ s. elim (cases_eq s x) [
    | inl same ↦ omega (arith, here s same, a.grown s)
    | inr apart ↦
        omega (arith, there s apart, a.grown s)
  ];
  counted = λ s within. elim (cases_eq s x) [
    | inl same ↦ record {
      most = omega (
        arith,
        here s same,
        (a.counted s within).most,
        occurrences_more s steps k lt,
        more_same s x same,
      );
      exact = λ h. omega (
        arith,
        here s same,
        (a.counted s within).exact (omega (
          arith,
          here s same,
          h,
        )),
        occurrences_more s steps k lt,
        more_same s x same,
      );
    }
    | inr apart ↦ record {
      most = omega (arith, there s apart, (a.counted s within).most, occurrences_more s steps k lt);
      exact = λ h. omega (
        arith,
        there s apart,
        (a.counted s within).exact
            (omega (arith, there s apart, h)),
        occurrences_more s steps k lt,
        more_apart s x apart,
      );
    }
  ];
}
  where
    x : ℕ
    x = get_or steps k 0

    here : (s : ℕ) → s ≡ x → get_or (set mid x (get_or mid x 0 + 1)) s 0 ≡ get_or mid s 0 + 1
    here s same = rw same (get_or-set_same mid x (get_or mid x 0 + 1) 0 inside)

    there : (s : ℕ) → (s ≡ x → ⊥) → get_or (set mid x (get_or mid x 0 + 1)) s 0 ≡ get_or mid s 0
    there s apart = get_or-set_other mid x s (get_or mid x 0 + 1) 0 apart

pub added_all : (old new steps : List ℕ) (k : ℕ) → length steps ≤ k
    → AreAdded old new (take k steps) → AreAdded old new steps
added_all old new steps k le a = subst (AreAdded old new) (take_all k steps le) a

-- the first steps that an output needs are counted
pub record AreNeeded (g : StepsOf) (last uses : List ℕ) (n k : ℕ) : Type 0 where
  pub size : length uses ≡ n
  pub each : (s : ℕ) → s < n → IsCounted 0 (get_or uses s 0) (needed_uses g last s k)

needed_more : (g : StepsOf) (last : List ℕ) (s k : ℕ) → needed_uses g last s (k + 1)
    ≡ needed_uses g last s k + (if ltb 0 (get_or last k 0) then occurrences s (uses_of g k) else 0)
needed_more g last s k = let e : k + 1 ≡ suc k = omega arith in rw e refl

pub needed_start : (g : StepsOf) (last uses : List ℕ) (n : ℕ) → length uses ≡ n
    → ((s : ℕ) → s < n → get_or uses s 0 ≡ 0) → AreNeeded g last uses n 0
needed_start g last uses n size none = record {
  size = size;
  each =
      λ s inside. rw (none s inside) (counted_none 0);
}

-- a step that no output needs
pub needed_skip : (g : StepsOf) (last uses : List ℕ) (n k : ℕ) → get_or last k 0 ≡ 0
    → AreNeeded g last uses n k → AreNeeded g last uses n (k + 1)
needed_skip g last uses n k none a = record {
  size = a.size;
  each = λ s inside. subst (IsCounted 0 (get_or uses s 0)) (sym (same s)) (a.each s inside);
}
  where
    same : (s : ℕ) → needed_uses g last s (k + 1) ≡ needed_uses g last s k
    same s = needed_more g last s k ∙ (rw none (omega arith))

-- one that some output needs
pub needed_step : (g : StepsOf) (last uses new : List ℕ) (n k : ℕ) → 0 < get_or last k 0
    → AreAdded uses new (uses_of g k) → AreNeeded g last uses n k → AreNeeded g last new n (k + 1)
needed_step g last uses new n k some added a = record {
  size = added.size ∙ a.size;
  each = λ s inside.
      subst (IsCounted 0 (get_or new s 0)) (sym (more s))
      (counted_twice 0 (get_or uses s 0) (get_or new s 0) (needed_uses g last s k)
      (occurrences s (uses_of g k)) (added.grown s)
      (a.each s inside) (added.counted s (omega (arith, inside, a.size))));
}
  where
    more : (s : ℕ) → needed_uses g last s (k + 1) ≡ needed_uses g last s k
        + occurrences s (uses_of g k)
    more s = needed_more g last s k
        ∙ ap (λ b. needed_uses g last s k + (if b then occurrences s (uses_of g k) else 0))
        (lt-ltb 0 (get_or last k 0) some)

-- no step was made
pub made_none : (g : StepsOf) (used : List ℕ) → AreCounted g [] used used
made_none g used = record {
  size = refl;
  grown = λ s. omega arith;
  once = λ i j lt h. absurd (omega arith);
  counted = λ s inside. counted_none (get_or used s 0);
}

-- one step was made
pub made_one : (g : StepsOf) (step : ℕ) (old new : List ℕ) → AreAdded old new (uses_of g step)
    → AreCounted g (step ∷ []) old new
made_one g step old new a = record {
  size = a.size;
  grown = a.grown;
  once = λ i j lt h. absurd (omega arith);
  counted = λ s inside.
      subst (IsCounted (get_or old s 0) (get_or new s 0))
      (sym (sum_by-cons (λ k. occurrences s (uses_of g k)) step []))
      (subst (IsCounted (get_or old s 0) (get_or new s 0)) (omega arith) (a.counted s inside));
}

-- one step more, which is higher than the others
pub made_more : (g : StepsOf) (made : List ℕ) (step : ℕ) (u0 u1 u2 : List ℕ)
    → ((i : ℕ) → i < length made → get_or made i 0 < step) →
    AreCounted g made u0 u1 → AreCounted g (step ∷ []) u1 u2
    → AreCounted g (made ++ step ∷ []) u0 u2
made_more g made step u0 u1 u2 below a b = record {
  size = b.size ∙ a.size;
  grown = λ s. omega (arith, a.grown s, b.grown s);
  once = λ i j lt h. elim (cases_eq j (length made)) [
    | inl end ↦ omega (arith, old i (omega arith), new j end, below i (omega arith))
    | inr apart ↦ (let inside : j < length made = omega (arith, h, size, apart) in
        omega (arith, old i (omega arith), old j inside, a.once i j lt inside))
  ];
  counted = λ s inside.
      subst (IsCounted (get_or u0 s 0) (get_or u2 s 0))
      (sym (sum_by-append (λ k. occurrences s (uses_of g k)) made (step ∷ [])))
      (counted_twice (get_or u0 s 0) (get_or u1 s 0) (get_or u2 s 0) (uses_by g made s)
      (uses_by g (step ∷ []) s) (b.grown s) (a.counted s inside)
      (b.counted s (omega (arith, inside, a.size))));
}
  where
    size : length (made ++ step ∷ []) ≡ length made + 1
    size = length-append made (step ∷ [])

    old : (i : ℕ) → i < length made → get_or (made ++ step ∷ []) i 0 ≡ get_or made i 0
    old i lt = get_or_append_left made (step ∷ []) 0 i lt

    new : (i : ℕ) → i ≡ length made → get_or (made ++ step ∷ []) i 0 ≡ step
    new i end = ap (λ j. get_or (made ++ step ∷ []) j 0) end ∙ get_or-append_seam made step [] 0

-- what is of use later, and where more was counted, is of use now
pub of_use_before : (plan : Plan) (used more : List ℕ) (s at later : ℕ) → at ≤ later
    → ((s : ℕ) → get_or used s 0 ≤ get_or more s 0) → IsOfUse plan more s later
    → IsOfUse plan used s at
of_use_before plan used more s at later le grown h = record {
  later = omega (arith, le, h.later);
  unmet = λ met. h.unmet (record {
    known = met.known;
    counted = omega (arith, met.counted, grown s);
    root = omega (arith, met.root, le);
  });
}

-- a list of zeros
pub zeros : (xs : List ℕ) (n : ℕ) → xs ≡ replicate n 0 → (s : ℕ) → get_or xs s 0 ≡ 0
zeros xs n are s = ap (λ ys. get_or ys s 0) are ∙ elim (cases_lt s n) [
  | inl inside ↦ get_or-replicate n s 0 0 inside
  | inr past ↦ get_or_past (replicate n 0) s 0 (omega (arith, past, length-replicate {A = ℕ} n 0))
]

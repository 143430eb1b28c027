-- The last moments at which steps are used.
use Rattle.std.proofs.Common.{◌≡◌, ℕ, ◌+◌, ◌<◌, ◌≤◌, Bool, true, false, true≢false, List, length}
use Rattle.std.proofs.Common.{get_or, set, refl, sym, ◌∙◌, ap, arith, inl, inr, subst}
use Rattle.std.proofs.lemmas.List.{get_or-set_same, get_or-set_other}
use Rattle.std.proofs.lemmas.Bool.{cases_eq}
use Rattle.std.proofs.Math.ListN.{length-set}
use Rattle.eqc_build.specs.Steps.{StepsOf, AreSteps, goals_of, steps_in, uses_of}
use Rattle.eqc_build.specs.Schedule.{moment, end_of, AreLastMoments, AreUsedUntil, IsRaised}
use Rattle.eqc_build.specs.Turns.{is_marked}
use Rattle.eqc_build.proofs.StepLaws.{uses_before}

pub raised_none : (old signals : List ℕ) (at : ℕ) → IsRaised old old signals 0 at
raised_none old signals at = record {
  size = refl;
  grown = λ s. omega arith;
  noted = λ k h. absurd (omega arith);
  others = λ s. inl refl;
}

-- a step that has a later moment already
pub raised_same : (old mid signals : List ℕ) (n at : ℕ) → at ≤ get_or mid (get_or signals n 0) 0
    → IsRaised old mid signals n at → IsRaised old mid signals (n + 1) at
raised_same old mid signals n at late r = record {
  size = r.size;
  grown = r.grown;
  noted = λ k h. elim (cases_eq k n) [
    | inl same ↦ rw same late
    | inr apart ↦
        r.noted k (omega arith)
  ];
  others = λ s. elim (r.others s) [
    | inl same ↦ inl same
    | inr w ↦ inr (w.0, omega (arith, w.1), w.2)
  ];
}

-- a signal that has an earlier one
pub raised_more : (old mid signals : List ℕ) (n at : ℕ) → get_or signals n 0 < length mid
    → get_or mid (get_or signals n 0) 0 < at →
    IsRaised old mid signals n at → IsRaised old (set mid (get_or signals n 0) at) signals (n + 1)
    at
raised_more old mid signals n at inside early r = record {
  size = length-set mid (get_or signals n 0) at ∙ r.size;
  grown = λ s. elim (cases_eq s (get_or signals n 0)) [
    | inl same ↦ omega (arith, here s same, r.grown s, ap (λ j. get_or mid j 0) same)
    | inr apart ↦ omega (arith, there s apart, r.grown s)
  ];
  noted = λ k h. elim (cases_eq (get_or signals k 0) (get_or signals n 0)) [
    | inl same ↦ omega (arith, here (get_or signals k 0) same)
    | inr apart ↦ omega (arith, there (get_or signals k 0) apart, r.noted k (before k h apart))
  ];
  others = λ s. elim (cases_eq s (get_or signals n 0)) [
    | inl same ↦ inr (n, omega arith, sym same)
    | inr apart ↦ elim (r.others s) [
      | inl same ↦ inl (there s apart ∙ same)
      | inr w ↦
          inr (w.0, omega (arith, w.1), w.2)
    ]
  ];
}
  where
    here : (s : ℕ) → s ≡ get_or signals n 0 → get_or (set mid (get_or signals n 0) at) s 0 ≡ at
    here s same = ap (λ j. get_or (set mid (get_or signals n 0) at) j 0) same
        ∙ get_or-set_same mid (get_or signals n 0) at 0 inside

    there : (s : ℕ) → (s ≡ get_or signals n 0 → ⊥) → get_or (set mid (get_or signals n 0) at) s 0
        ≡ get_or mid s 0
    there s apart = get_or-set_other mid (get_or signals n 0) s at 0 apart

    before : (k : ℕ) → k < n + 1 → (get_or signals k 0 ≡ get_or signals n 0 → ⊥) → k < n
    before k h apart = elim (cases_eq k n) [
      | inl same ↦
          absurd (apart (ap (λ j. get_or signals j 0) same))
      | inr other ↦ omega arith
    ]

-- the first outputs that are not marked use their steps until they are compared
pub record AreEnded (g : StepsOf) (marks : List Bool) (last : List ℕ) (outputs : ℕ) : Type 0 where
  pub size : length last ≡ steps_in g.pair
  pub each : (o : ℕ) → o < outputs → is_marked marks o ≡ false
      → AreUsedUntil last (goals_of g o) (end_of g (o + 1))

pub ended_none : (g : StepsOf) (marks : List Bool) (last : List ℕ) → length last ≡ steps_in g.pair
    → AreEnded g marks last 0
ended_none g marks last size = record { size = size; each = λ o lt unmarked. absurd (omega arith) }

-- moments that are no earlier
later_ended : (g : StepsOf) (marks : List Bool) (last new : List ℕ) (outputs : ℕ)
    → length new ≡ length last →
    ((s : ℕ) → get_or last s 0 ≤ get_or new s 0) → AreEnded g marks last outputs
    → AreEnded g marks new outputs
later_ended g marks last new outputs size late e = record {
  size = size ∙ e.size;
  each = λ o lt unmarked. record {
    each = λ k h. omega (
      arith,
      late (get_or (goals_of g o) k 0),
      (e.each o lt unmarked).each k h,
    );
  };
}

-- one output more, that is marked, or whose steps are noted
pub ended_marked : (g : StepsOf) (marks : List Bool) (last : List ℕ) (outputs : ℕ)
    → is_marked marks outputs ≡ true → AreEnded g marks last outputs
    → AreEnded g marks last (outputs + 1)
ended_marked g marks last outputs marked e = record {
  size = e.size;
  each = λ o lt unmarked. elim (cases_eq o outputs) [
    | inl same ↦ absurd (true≢false (sym marked ∙ (ap (is_marked marks) (sym same) ∙ unmarked)))
    | inr apart ↦ e.each o (omega arith) unmarked
  ];
}

pub ended_more : (g : StepsOf) (marks : List Bool) (last new : List ℕ) (outputs : ℕ)
    (goals : List ℕ) (at : ℕ) → goals ≡ goals_of g outputs →
    at ≡ end_of g (outputs + 1) → IsRaised last new goals (length goals) at
    → AreEnded g marks last outputs → AreEnded g marks new (outputs + 1)
ended_more g marks last new outputs goals at are is r e = record {
  size = more.size;
  each = λ o lt unmarked. elim (cases_eq o outputs) [
    | inl same ↦ subst (λ i. AreUsedUntil new (goals_of g i) (end_of g (i + 1))) (sym same)
        (subst (λ xs. AreUsedUntil new xs (end_of g (outputs + 1))) are here)
    | inr apart ↦ more.each o (omega arith) unmarked
  ];
}
  where
    more : AreEnded g marks new outputs
    more = later_ended g marks last new outputs r.size r.grown e

    here : AreUsedUntil new goals (end_of g (outputs + 1))
    here = record { each = λ k h. omega (arith, is, r.noted k h) }

-- the steps from k on have their moments
pub record AreMomentsFrom (g : StepsOf) (marks : List Bool) (last : List ℕ) (outputs k : ℕ) : Type 0
  where
    pub ended : AreEnded g marks last outputs
    pub closed : (j c output : ℕ) → k ≤ j → j < steps_in g.pair → c < length (uses_of g j)
        → 1 ≤ output → moment output 0 ≤ get_or last j 0 →
        moment output (j + 1) ≤ get_or last (get_or (uses_of g j) c 0) 0

pub moments_start : (g : StepsOf) (marks : List Bool) (last : List ℕ) (outputs : ℕ)
    → AreEnded g marks last outputs → AreMomentsFrom g marks last outputs (steps_in g.pair)
moments_start g marks last outputs e = record {
  ended = e;
  closed =
      λ j c output le lt within some late. absurd (omega arith);
}

pub moments_skip : (g : StepsOf) (marks : List Bool) (last : List ℕ) (outputs k : ℕ)
    → get_or last k 0 ≡ 0 → AreMomentsFrom g marks last outputs (k + 1)
    → AreMomentsFrom g marks last outputs k
moments_skip g marks last outputs k none m = record {
  ended = m.ended;
  closed = λ j c output le lt within some late. elim (cases_eq j k) [
    | inl same ↦ absurd (let z : get_or last j 0 ≡ 0 = rw same none in omega arith)
    | inr apart ↦ m.closed j c output (omega arith) lt within some late
  ];
}

pub moments_raised : (g : StepsOf) (marks : List Bool) (last new : List ℕ) (outputs k start : ℕ)
    → AreSteps g → k < steps_in g.pair →
    ((output : ℕ) → moment output 0 ≤ get_or last k 0 → moment output 0 ≤ start)
    → AreMomentsFrom g marks last outputs (k + 1) →
    IsRaised last new (uses_of g k) (length (uses_of g k)) (start + (k + 1))
    → AreMomentsFrom g marks new outputs k
moments_raised g marks last new outputs k start h inside starts m r = record {
  ended = later_ended g marks last new outputs r.size r.grown m.ended;
  closed = λ j c output le lt within some late. elim (cases_eq j k) [
    | inl same ↦ here j c output same within (omega (arith, late, same_at j le))
    | inr apart ↦ omega (
      arith,
      m.closed j c output (omega arith) lt within some
          (omega (arith, late, same_at j le)),
      r.grown (get_or (uses_of g j) c 0),
    )
  ];
}
  where
    same_at : (j : ℕ) → k ≤ j → get_or new j 0 ≡ get_or last j 0
    same_at j le = elim (r.others j) [
      | inl same ↦ same
      | inr w ↦ absurd (omega (arith, uses_before g k w.0 h inside w.1, w.2))
    ]

    marked : (c output : ℕ) → c < length (uses_of g k) → moment output 0 ≤ get_or last k 0
        → moment output (k + 1) ≤ get_or new (get_or (uses_of g k) c 0) 0
    marked c output within late = omega (arith, starts output late, r.noted c within)

    here : (j c output : ℕ) → j ≡ k → c < length (uses_of g j) → moment output 0 ≤ get_or last j 0
        → moment output (j + 1) ≤ get_or new (get_or (uses_of g j) c 0) 0
    here j c output same within late =
        let P : ℕ → Type 0 = λ i. c < length (uses_of g i) → moment output 0 ≤ get_or last i 0
        → moment output (i + 1) ≤ get_or new (get_or (uses_of g i) c 0) 0 in
        subst P (sym same) (marked c output) within late

pub moments_done : (g : StepsOf) (marks : List Bool) (last : List ℕ) (outputs : ℕ)
    → AreMomentsFrom g marks last outputs 0 → AreLastMoments g last
moments_done g marks last outputs m = record {
  size = m.ended.size;
  closed = λ k c output lt within some late. m.closed k c output (omega arith) lt within some late;
}

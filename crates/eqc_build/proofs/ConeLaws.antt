-- The last moments of the steps that one output needs.
use Rattle.std.proofs.Common.{◌≡◌, ℕ, ◌+◌, ◌<◌, ◌≤◌, List, [], ◌∷◌, Bool, true, false, Some, length}
use Rattle.std.proofs.Common.{get_or, cond, nat_eq, eq-eqb, ne_eqb, refl, sym, ◌∙◌, ap, arith, inl}
use Rattle.std.proofs.Common.{inr, ◌⊎◌, subst}
use Rattle.std.specs.Option.{unwrap_or}
use Rattle.indexmap.specs.IndexMap.{IndexMap, get}
use Rattle.std.specs.List.Sorted.{IsPermutation}
use Rattle.std.proofs.lemmas.Bool.{cases_eq}
use Rattle.eqc_build.specs.Listed.{listed, moment_in}
use Rattle.eqc_build.specs.Steps.{StepsOf, AreSteps, steps_in, uses_of}
use Rattle.eqc_build.specs.Schedule.{moment, end_of, AreLastMoments, AreUsedUntil, AreNoted, IsOpen}
use Rattle.eqc_build.proofs.ListedLaws.{listed_size, listed_at}
use Rattle.eqc_pair.proofs.AssumptionLemmas.{assumed_flat}
use Rattle.eqc_build.proofs.StepLaws.{uses_before, uses_within}
use Rattle.eqc_build.proofs.WantedLaws.{open_none, open_here, open_kept, open_popped, open_pushed}
use Rattle.eqc_build.proofs.WantedLaws.{open_top}

-- a number is 0 or above it
none_or_some : (n : ℕ) → (n ≡ 0) ⊎ (0 < n)
none_or_some n = elim (cases_eq n 0) [ inl none ↦ inl none | inr some ↦ inr (omega arith) ]

-- ---- noting the steps that a step uses

pub noted_none : (steps : List ℕ) (at : ℕ) (last : ℕ → ℕ) (items : List ℕ)
    → AreNoted steps at last items last items 0
noted_none steps at last items = record {
  stays = λ s some. refl;
  there = λ k h. absurd (omega arith);
  fresh = λ s none some. absurd (omega arith);
  still = λ x h. h;
  only = λ x h. inl h;
}

pub noted_now : {S : Type 0} (old new : IndexMap ℕ ℕ S) (s t at : ℕ) → s ≡ t →
    ((q : ℕ) → get nat_eq new q ≡ cond (nat_eq s q) (Some at) (get nat_eq old q)) → (q : ℕ)
    → moment_in new q ≡ cond (nat_eq t q) at (moment_in old q)
noted_now old new s t at same is q = ap (λ o. unwrap_or o 0) (is q)
    ∙ (by (nat_eq s q) ∙ ap (λ u. cond (nat_eq u q) at (moment_in old q)) same)
  where
    by : (b : Bool) → unwrap_or (cond b (Some at) (get nat_eq old q)) 0
        ≡ cond b at (unwrap_or (get nat_eq old q) 0)
    by true = refl
    by false = refl

-- one step that has a moment, and one that has none
pub noted_same : (step at : ℕ) (last : ℕ → ℕ) (items : List ℕ) → 0 < last step
    → AreNoted (step ∷ []) at last items last items 1
noted_same step at last items some = record {
  stays = λ s had. refl;
  there = λ k h. (let zero : k ≡ 0 = omega arith in rw zero some);
  fresh = λ s none has. absurd (omega arith);
  still = λ x h. h;
  only = λ x h. inl h;
}

pub noted_one : (step at : ℕ) (old : ℕ → ℕ) (old_items : List ℕ) (new : ℕ → ℕ) (new_items : List ℕ)
    → 1 ≤ at → old step ≡ 0 →
    ((q : ℕ) → new q ≡ cond (nat_eq step q) at (old q)) → IsPermutation (step ∷ old_items) new_items
    →
    AreNoted (step ∷ []) at old old_items new new_items 1
noted_one step at old old_items new new_items some none now perm = record {
  stays = λ s had. other s (λ e. absurd (omega (arith, had, none, ap old e)));
  there = λ k h. (let zero : k ≡ 0 = omega arith in rw zero (omega (arith, here step refl, some)));
  fresh = λ s had has. elim (cases_eq s step) [
    | inl same ↦ (here s same, rw same (open_here old_items new_items step perm))
    | inr apart ↦ absurd (omega (arith, has, other s apart, had))
  ];
  still = λ x h. open_kept old_items new_items step x perm h;
  only = λ x h. elim (open_pushed old_items new_items step x perm h) [
    | inl same ↦
        inr (0, omega arith, sym same)
    | inr early ↦ inl early
  ];
}
  where
    here : (s : ℕ) → s ≡ step → new s ≡ at
    here s same = now s ∙ ap (λ b. cond b at (old s)) (eq-eqb step s (sym same))

    other : (s : ℕ) → (s ≡ step → ⊥) → new s ≡ old s
    other s apart = now s ∙ ap (λ b. cond b at (old s)) (ne_eqb step s (λ e. apart (sym e)))

-- one step more
pub noted_more : (steps : List ℕ) (at : ℕ) (old : ℕ → ℕ) (old_items : List ℕ) (mid : ℕ
    → ℕ) (mid_items : List ℕ) (new : ℕ → ℕ) (new_items : List ℕ) (n : ℕ) →
    AreNoted steps at old old_items mid mid_items n → AreNoted (get_or steps n 0 ∷ []) at mid
    mid_items new new_items 1 →
    AreNoted steps at old old_items new new_items (n + 1)
noted_more steps at old old_items mid mid_items new new_items n a one = record {
  stays = λ s had. one.stays s (omega (arith, had, a.stays s had)) ∙ a.stays s had;
  there = λ k h. elim (cases_eq k n) [
    | inl same ↦ rw same (one.there 0 (omega arith))
    | inr apart ↦ omega (
      arith,
      a.there k (omega arith),
      one.stays (get_or steps k 0)
          (a.there k (omega arith)),
    )
  ];
  fresh = λ s had has. elim (none_or_some (mid s)) [
    | inl none ↦ one.fresh s none has
    | inr some ↦ (one.stays s some ∙ (a.fresh s had some).0, one.still s (a.fresh s had some).1)
  ];
  still = λ x h. one.still x (a.still x h);
  only = λ x h. elim (one.only x h) [
    | inl before ↦ elim (a.only x before) [
      | inl early ↦ inl early
      | inr w ↦
          inr (w.0, omega (arith, w.1), w.2)
    ]
    | inr w ↦ (let zero : w.0 ≡ 0 = omega (arith, w.1) in
        inr (n, omega arith, ap (λ k. get_or (get_or steps n 0 ∷ []) k 0) (sym zero) ∙ w.2))
  ];
}

-- ---- the walk

-- the steps from the highest one down to `below` have noted what they use, but for the open ones,
-- which are all below it
pub record IsNotedFrom (g : StepsOf) (roots : List ℕ) (last : ℕ → ℕ) (items : List ℕ) (below : ℕ) :
    Type 0 where
  pub small : below ≤ steps_in g.pair
  pub open_below : (x : ℕ) → IsOpen items x → x < below
  pub late : (s : ℕ) → 0 < last s → moment 1 (below + 1) ≤ last s
  pub few : (s : ℕ) → last s ≤ end_of g 1
  pub at_roots : (r : ℕ) → r < length roots → end_of g 1 ≤ last (get_or roots r 0)
  pub closed : (k c : ℕ) → k < steps_in g.pair → c < length (uses_of g k) → 0 < last k
      → IsOpen items k ⊎ (moment 1 (k + 1) ≤ last (get_or (uses_of g k) c 0))

pub noted_start : (g : StepsOf) (roots old_items : List ℕ) (old last : ℕ → ℕ) (items : List ℕ)
    → old_items ≡ [] → ((s : ℕ) → old s ≡ 0) →
    ((r : ℕ) → r < length roots → get_or roots r 0 < steps_in g.pair)
    → AreNoted roots (end_of g 1) old old_items last items (length roots) →
    IsNotedFrom g roots last items (steps_in g.pair)
noted_start g roots old_items old last items empty none inside a = record {
  small = omega arith;
  open_below = λ x h. elim (a.only x h) [
    | inl before ↦ absurd (open_none x (subst (λ xs. IsOpen xs x) empty before))
    | inr w ↦ omega (arith, inside w.0 w.1, w.2)
  ];
  late = λ s some. omega (arith, (a.fresh s (none s) some).0);
  few = λ s. elim (none_or_some (last s)) [
    | inl zero ↦ omega (arith, zero)
    | inr some ↦
        omega (arith, (a.fresh s (none s) some).0)
  ];
  at_roots = λ r h. omega (
    arith,
    (a.fresh (get_or roots r 0) (none (get_or roots r 0))
        (a.there r h)).0,
  );
  closed = λ k c lt within some. inl (a.fresh k (none k) some).1;
}

pub noted_step : (g : StepsOf) (roots : List ℕ) (last new : ℕ → ℕ) (h0 h1 h2 h3 : List ℕ)
    (below p : ℕ) → AreSteps g → IsPermutation h0 (p ∷ h1) →
    ((x : ℕ) → IsOpen h1 x → x ≤ p) → ((x : ℕ) → IsOpen h2 x → x < p)
    → ((x : ℕ) → x < p → IsOpen h1 x → IsOpen h2 x) →
    AreNoted (uses_of g p) (moment 1 (p + 1)) last h2 new h3 (length (uses_of g p))
    → IsNotedFrom g roots last h0 below → IsNotedFrom g roots new h3 p
noted_step g roots last new h0 h1 h2 h3 below p lawful perm popped_below dropped_below
    dropped_others a w = record {
      small = omega (arith, top, w.small);
      open_below = λ x h. elim (a.only x h) [
        | inl o ↦ dropped_below x o
        | inr k ↦
            omega (arith, uses_before g p k.0 lawful inside k.1, k.2)
      ];
      late = late;
      few = λ s. elim (none_or_some (last s)) [
        | inl none ↦ elim (none_or_some (new s)) [
          | inl zero ↦ omega (arith, zero)
          | inr some ↦
              omega (arith, (a.fresh s none some).0, top, w.small)
        ]
        | inr had ↦ omega (arith, a.stays s had, w.few s)
      ];
      at_roots = λ r h. omega (
        arith,
        w.at_roots r h,
        a.stays (get_or roots r 0)
            (omega (arith, w.at_roots r h)),
      );
      closed = closed;
    }
  where
    top : p < below
    top = w.open_below p (open_top h0 h1 p perm)

    inside : p < steps_in g.pair
    inside = omega (arith, top, w.small)

    late : (s : ℕ) → 0 < new s → moment 1 (p + 1) ≤ new s
    late s some = elim (none_or_some (last s)) [
      | inl none ↦ omega (arith, (a.fresh s none some).0)
      | inr had ↦ omega (arith, a.stays s had, w.late s had, top)
    ]

    closed : (k c : ℕ) → k < steps_in g.pair → c < length (uses_of g k) → 0 < new k → IsOpen h3 k
        ⊎ (moment 1 (k + 1) ≤ new (get_or (uses_of g k) c 0))
    closed k c lt within some = elim (none_or_some (last k)) [
      | inl none ↦ inl (a.fresh k none some).1
      | inr had ↦ elim (w.closed k c lt within had) [
        | inl o ↦ opened k c within o
        | inr le ↦ inr (omega (arith, le, a.stays (get_or (uses_of g k) c 0) (omega (arith, le))))
      ]
    ]
      where
        here : (k c : ℕ) → k ≡ p → c < length (uses_of g k) → moment 1 (k + 1)
            ≤ new (get_or (uses_of g k) c 0)
        here k c same within =
            let P : ℕ → Type 0 = λ i. c < length (uses_of g i) → moment 1 (i + 1)
            ≤ new (get_or (uses_of g i) c 0) in
            subst P (sym same) (λ lt. late (get_or (uses_of g p) c 0) (a.there c lt)) within

        opened : (k c : ℕ) → c < length (uses_of g k) → IsOpen h0 k → IsOpen h3 k
            ⊎ (moment 1 (k + 1) ≤ new (get_or (uses_of g k) c 0))
        opened k c within o = elim (open_popped h0 h1 p k perm o) [
          | inl same ↦ inr (here k c same within)
          | inr left ↦ elim (cases_eq k p) [
            | inl same ↦ inr (here k c same within)
            | inr apart ↦ inl (a.still k (dropped_others k (omega (arith, popped_below k left))
                left))
          ]
        ]

module _ (g : StepsOf) (roots : List ℕ) (last : ℕ → ℕ) (items : List ℕ) (below : ℕ)
    (lawful : AreSteps g) (empty : items ≡ []) (w : IsNotedFrom g roots last items below) where
  -- all steps have noted what they use
  pub noted_done : AreLastMoments g (listed (steps_in g.pair) last)
  noted_done = record {
    size = listed_size (steps_in g.pair) last;
    closed = λ k c output lt within some late.
        let noted = listed_at (steps_in g.pair) last k 0 lt in
        let one : output ≡ 1 =
        omega (
          arith,
          some,
          late,
          noted,
          w.few k,
          lawful.lawful.first_flat.few_signals,
          lawful.lawful.second_flat.few_signals,
          (assumed_flat g.pair lawful.lawful).few_signals,
        )
        in
        elim (w.closed k c lt within (omega (arith, some, late, noted))) [
          | inl o ↦ absurd (open_none k (subst (λ xs. IsOpen xs k) empty o))
          | inr le ↦ omega (
            arith,
            one,
            le,
            listed_at (steps_in g.pair) last (get_or (uses_of g k) c
                0) 0 (uses_within g k c lawful lt within),
          )
        ];
  }

  pub noted_roots : ((r : ℕ) → r < length roots → get_or roots r 0 < steps_in g.pair)
      → AreUsedUntil (listed (steps_in g.pair) last) roots (end_of g 1)
  noted_roots inside = record {
    each = λ r h. omega (
      arith,
      w.at_roots r h,
      listed_at (steps_in g.pair) last (get_or roots r 0) 0 (inside r h),
    );
  }

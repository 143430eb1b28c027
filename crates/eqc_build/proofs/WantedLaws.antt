-- The steps that are still to be made for an output.
use Rattle.std.proofs.Common.{◌≡◌, ℕ, ◌+◌, ◌<◌, ◌≤◌, Bool, true, false, ◌||◌, nat_eq, List, [], ◌∷◌}
use Rattle.std.proofs.Common.{◌++◌, length, get_or, set, Option, Some, None, IfSome, refl, sym, ◌∙◌}
use Rattle.std.proofs.Common.{ap, arith, inl, inr, ◌⊎◌, subst, IsSome}
use Rattle.std.specs.Borrow.{Bor}
use Rattle.std.specs.Option.{option_copied}
use Rattle.std.specs.List.{All, list_any}
use Rattle.std.specs.Ordering.{nat_cmp}
use Rattle.std.specs.BinaryHeap.{IsHeap, IsUpperBound, PopsGreatest}
use Rattle.std.specs.List.Sorted.{IsPermutation}
use Rattle.std.proofs.lemmas.List.{length-append, get_or_append_left, get_or-set_same}
use Rattle.std.proofs.lemmas.List.{get_or-set_other}
use Rattle.std.proofs.Math.ListN.{length-set}
use Rattle.std.proofs.Math.Seq.{get_or-append_seam}
use Rattle.std.proofs.lemmas.List.Sorted.{list_any-IsPermutation, le_from_greatest}
use Rattle.std.proofs.lemmas.Bool.{cases_eq, cases_lt, or_cases, eqb-true, eq-eqb, true≢false}
use Rattle.std.proofs.lemmas.Bool.{false≢true}
use Rattle.std.proofs.lemmas.List.Elements.{All-contains}
use Rattle.indexmap.proofs.CallerLemmas.{Contains-list_any}
use Rattle.std.proofs.lemmas.List.{get_or_default}
use Rattle.eqc_build.specs.Building.{reference_of}
use Rattle.eqc_build.specs.Steps.{StepsOf, AreSteps, steps_in, uses_of}
use Rattle.eqc_build.specs.Schedule.{moment, end_of, AreLastMoments, AreUsedUntil, AreUsedInTurn}
use Rattle.eqc_build.specs.Schedule.{AreLasting, AreWanted, AreReached, AreOpened, IsBehind, IsOpen}
use Rattle.eqc_build.proofs.StepLaws.{uses_before}

pub open_none : (x : ℕ) → IsOpen [] x → ⊥
unfolding IsOpen
open_none x h = true≢false (sym h)

pub open_all : (P : ℕ → Type 0) (xs : List ℕ) (x : ℕ) → All P xs → IsOpen xs x → P x
unfolding IsOpen
open_all P xs x all h = All-contains P xs x all (Contains-list_any nat_eq eqb-true xs x h)

open_front : (y : ℕ) (ys : List ℕ) (x : ℕ) → IsOpen (y ∷ ys) x → (x ≡ y) ⊎ IsOpen ys x
unfolding IsOpen
open_front y ys x h = elim (or_cases (nat_eq x y) (list_any (nat_eq x) ys) h) [
  | inl same ↦
      inl (eqb-true x y same)
  | inr more ↦ inr more
]

open_later : (y : ℕ) (ys : List ℕ) (x : ℕ) → IsOpen ys x → IsOpen (y ∷ ys) x
unfolding IsOpen
open_later y ys x h = elim (cases_eq x y) [
  | inl same ↦ rw (eq-eqb x y same) refl
  | inr apart ↦
      or_true (nat_eq x y) (list_any (nat_eq x) ys) h
]
  where
    or_true : (a b : Bool) → b ≡ true → (a || b) ≡ true
    or_true true b h = refl
    or_true false b h = h

open_first : (y : ℕ) (ys : List ℕ) → IsOpen (y ∷ ys) y
unfolding IsOpen
open_first y ys = rw (eq-eqb y y refl) refl

open_moved : (xs ys : List ℕ) (x : ℕ) → IsPermutation xs ys → IsOpen xs x → IsOpen ys x
unfolding IsOpen
open_moved xs ys x p h = sym (list_any-IsPermutation (nat_eq x) xs ys p) ∙ h

open_moved_back : (xs ys : List ℕ) (x : ℕ) → IsPermutation xs ys → IsOpen ys x → IsOpen xs x
unfolding IsOpen
open_moved_back xs ys x p h = list_any-IsPermutation (nat_eq x) xs ys p ∙ h

-- a number that comes out of a heap
pub open_popped : (xs ys : List ℕ) (y x : ℕ) → IsPermutation xs (y ∷ ys) → IsOpen xs x → (x ≡ y)
    ⊎ IsOpen ys x
open_popped xs ys y x p h = open_front y ys x (open_moved xs (y ∷ ys) x p h)

pub open_left : (xs ys : List ℕ) (y x : ℕ) → IsPermutation xs (y ∷ ys) → IsOpen ys x → IsOpen xs x
open_left xs ys y x p h = open_moved_back xs (y ∷ ys) x p (open_later y ys x h)

pub open_top : (xs ys : List ℕ) (y : ℕ) → IsPermutation xs (y ∷ ys) → IsOpen xs y
open_top xs ys y p = open_moved_back xs (y ∷ ys) y p (open_first y ys)

-- a number that comes into it
pub open_pushed : (xs ys : List ℕ) (y x : ℕ) → IsPermutation (y ∷ xs) ys → IsOpen ys x → (x ≡ y)
    ⊎ IsOpen xs x
open_pushed xs ys y x p h = open_front y xs x (open_moved_back (y ∷ xs) ys x p h)

pub open_kept : (xs ys : List ℕ) (y x : ℕ) → IsPermutation (y ∷ xs) ys → IsOpen xs x → IsOpen ys x
open_kept xs ys y x p h = open_moved (y ∷ xs) ys x p (open_later y xs x h)

pub open_here : (xs ys : List ℕ) (y : ℕ) → IsPermutation (y ∷ xs) ys → IsOpen ys y
open_here xs ys y p = open_moved (y ∷ xs) ys y p (open_first y xs)

-- what was seen at the top of a heap is what comes out of it
pub top_popped : (xs : List ℕ) (seen x : ℕ) → 0 < length xs → seen ≡ get_or xs 0 seen
    → x ≡ get_or xs 0 x → x ≡ seen
top_popped xs seen x some is was = was ∙ (get_or_default xs 0 x seen some ∙ sym is)

-- a number from `step` on that comes out of a heap
pub drop_more : (xs ys : List ℕ) (seen step : ℕ) (r : Option ℕ) → IsSome r → 0 < length xs
    → IsHeap nat_cmp xs → seen ≡ get_or xs 0 seen →
    step ≤ seen → IfSome r (λ x. x ≡ get_or xs 0 x) → IfSome r (λ x. IsPermutation xs (x ∷ ys))
    → IfSome r (λ x. PopsGreatest nat_cmp xs x ys) →
    IsHeap nat_cmp ys × ((x : ℕ) → IsOpen ys x → IsOpen xs x) × ((x : ℕ) → x < step → IsOpen xs x
    → IsOpen ys x)
drop_more xs ys seen step None there some heap is high was perm pops = absurd (false≢true there)
drop_more xs ys seen step (Some y) there some heap is high was perm pops = (
  (pops heap).0,
  λ x h. open_left xs ys y x perm h,
  λ x low h. elim (open_popped xs ys y x perm h) [
    | inl same ↦
        absurd (omega (arith, same, top_popped xs seen y some is was))
    | inr left ↦ left
  ],
)

pub nothing_in : (xs : List ℕ) → length xs ≡ 0 → xs ≡ []
nothing_in [] h = refl
nothing_in (x ∷ xs) h = absurd (omega arith)

pub open_below_top : (xs : List ℕ) (top x : ℕ) → IsUpperBound nat_cmp top xs → IsOpen xs x → x ≤ top
open_below_top xs top x upper h = open_all (λ y. y ≤ top) xs x (le_from_greatest top xs upper) h

-- what was borrowed at a place
pub some_copied : {X : Type 0} (o : Option (Bor X)) (p : Option X) → option_copied o ≡ p → IsSome o
    → IsSome p
some_copied None p is h = subst (λ q. IsSome q) is h
some_copied (Some r) p is h = subst (λ q. IsSome q) is h

-- the first steps were opened
pub opened_none : {X : Type 0} (table : List (Option X)) (steps items : List ℕ)
    → AreOpened table steps items items 0
opened_none table steps items = record {
  kept = λ x h. h;
  there = λ k h. absurd (omega arith);
  only = λ x h. inl h;
}

-- one step that has a reference, and one that has none
pub opened_here : {X : Type 0} (table : List (Option X)) (step : ℕ) (items : List ℕ)
    → IsSome (reference_of table step) → AreOpened table (step ∷ []) items items 1
opened_here table step items some = record {
  kept = λ x h. h;
  there = λ k h. (let zero : k ≡ 0 = omega arith in inl (rw zero some));
  only = λ x h. inl h;
}

pub opened_one : {X : Type 0} (table : List (Option X)) (step : ℕ) (old new : List ℕ)
    → IsPermutation (step ∷ old) new → AreOpened table (step ∷ []) old new 1
opened_one table step old new perm = record {
  kept = λ x h. open_kept old new step x perm h;
  there = λ k h. (let zero : k ≡ 0 = omega arith in inr (rw zero (open_here old new step perm)));
  only = λ x h. elim (open_pushed old new step x perm h) [
    | inl same ↦ inr (0, omega arith, sym same)
    | inr before ↦ inl before
  ];
}

-- one step more
pub opened_more : {X : Type 0} (table : List (Option X)) (steps old mid new : List ℕ) (n : ℕ)
    → AreOpened table steps old mid n →
    AreOpened table (get_or steps n 0 ∷ []) mid new 1 → AreOpened table steps old new (n + 1)
opened_more table steps old mid new n o one = record {
  kept = λ x h. one.kept x (o.kept x h);
  there = λ k h. elim (cases_eq k n) [
    | inl same ↦ rw same (one.there 0 (omega arith))
    | inr apart ↦ elim (o.there k (omega arith)) [
      | inl some ↦ inl some
      | inr there ↦
          inr (one.kept (get_or steps k 0) there)
    ]
  ];
  only = λ x h. elim (one.only x h) [
    | inl before ↦ elim (o.only x before) [
      | inl early ↦ inl early
      | inr w ↦
          inr (w.0, omega (arith, w.1), w.2)
    ]
    | inr w ↦ (let zero : w.0 ≡ 0 = omega (arith, w.1) in
        inr (n, omega arith, ap (λ k. get_or (get_or steps n 0 ∷ []) k 0) (sym zero) ∙ w.2))
  ];
}

-- a moment is noted for a step
pub lasting_here : (until : List ℕ) (step at : ℕ) → step < length until → get_or until step 0 < at
    → AreLasting until (set until step at) (step ∷ []) 1 at
lasting_here until step at inside early = record {
  size = length-set until step at;
  grown = λ s. elim (cases_eq s step) [
    | inl same ↦ omega (arith, here s same, early, ap (λ j. get_or until j 0) same)
    | inr apart ↦ omega (arith, get_or-set_other until step s at 0 apart)
  ];
  noted = λ k h place. (let zero : k ≡ 0 = omega arith in
      omega (arith, here (get_or (step ∷ []) k 0) (rw zero refl)));
}
  where
    here : (s : ℕ) → s ≡ step → get_or (set until step at) s 0 ≡ at
    here s same = ap (λ j. get_or (set until step at) j 0) same
        ∙ get_or-set_same until step at 0 inside

-- one that has no place, or a later moment
pub lasting_same : (until : List ℕ) (step at : ℕ) → (step < length until → get_or until step 0 < at
    → ⊥) → AreLasting until until (step ∷ []) 1 at
lasting_same until step at late = record {
  size = refl;
  grown = λ s. omega arith;
  noted = λ k h place. (let zero : k ≡ 0 = omega arith in elim (cases_lt (get_or until step 0) at) [
    | inl early ↦ absurd (late (omega (arith, place, ap (λ k. get_or (step ∷ []) k 0) zero)) early)
    | inr late' ↦ omega (arith, late', ap (λ k. get_or until (get_or (step ∷ []) k 0) 0) zero)
  ]);
}

pub lasting_none : (until steps : List ℕ) (at : ℕ) → AreLasting until until steps 0 at
lasting_none until steps at = record {
  size = refl;
  grown = λ s. omega arith;
  noted =
      λ k h place. absurd (omega arith);
}

-- one step more
pub lasting_more : (old mid new steps : List ℕ) (n at : ℕ) → AreLasting old mid steps n at
    → AreLasting mid new (get_or steps n 0 ∷ []) 1 at → AreLasting old new steps (n + 1) at
lasting_more old mid new steps n at l one = record {
  size = one.size ∙ l.size;
  grown = λ s. omega (arith, l.grown s, one.grown s);
  noted = λ k h place. elim (cases_eq k n) [
    | inl same ↦ (let e = ap (λ j. get_or steps j 0) same in
        omega (
          arith,
          one.noted 0 (omega arith) (omega (arith, place, e)),
          ap (λ s. get_or new s 0)
              e,
        ))
    | inr apart ↦ omega (
      arith,
      l.noted k (omega arith) (omega (arith, place, one.size)),
      one.grown (get_or steps k 0),
    )
  ];
}

-- the steps that are wanted so far, and the open ones, which are all below them
pub record AreWantedFrom {X : Type 0} (g : StepsOf) (last : List ℕ) (table : List (Option X))
    (output : ℕ) (roots wanted items : List ℕ) (below : ℕ) (until : List ℕ) : Type 0 where
  pub small : below ≤ steps_in g.pair
  pub within : (i : ℕ) → i < length wanted → get_or wanted i 0 < steps_in g.pair
  pub above : (i : ℕ) → i < length wanted → below ≤ get_or wanted i 0
  pub falling : (i j : ℕ) → i < j → j < length wanted → get_or wanted j 0 < get_or wanted i 0
  pub needed : (i : ℕ) → i < length wanted → moment output 0 ≤ get_or last (get_or wanted i 0) 0
  pub open_below : (x : ℕ) → IsOpen items x → x < below
  pub open_needed : (x : ℕ) → IsOpen items x → moment output 0 ≤ get_or last x 0
  pub closed : (i c : ℕ) → i < length wanted → c < length (uses_of g (get_or wanted i 0)) →
      IsSome (reference_of table (get_or (uses_of g (get_or wanted i 0)) c 0)) ⊎
      (IsBehind wanted (i + 1) (get_or (uses_of g (get_or wanted i 0)) c 0)
      ⊎ IsOpen items (get_or (uses_of g (get_or wanted i 0)) c 0))
  pub rooted : (r : ℕ) → r < length roots → IsSome (reference_of table (get_or roots r 0))
      ⊎ (IsBehind wanted 0 (get_or roots r 0) ⊎ IsOpen items (get_or roots r 0))
  pub in_turn : AreUsedInTurn g until output wanted roots

-- what was opened for the roots alone
pub wanted_first : {X : Type 0} (g : StepsOf) (last : List ℕ) (table : List (Option X)) (output : ℕ)
    (roots old items : List ℕ) (before until : List ℕ) →
    old ≡ [] → ((r : ℕ) → r < length roots → get_or roots r 0 < steps_in g.pair)
    → AreUsedUntil last roots (end_of g output) →
    AreOpened table roots old items (length roots) → AreLasting before until roots (length roots)
    (end_of g output) →
    AreWantedFrom g last table output roots [] items (steps_in g.pair) until
wanted_first g last table output roots old items before until empty inside used o n = record {
  small = omega arith;
  within = λ i h. absurd (omega arith);
  above = λ i h. absurd (omega arith);
  falling = λ i j lt h. absurd (omega arith);
  needed = λ i h. absurd (omega arith);
  open_below = λ x h. (let w = root x h in omega (arith, inside w.0 w.1, w.2));
  open_needed = λ x h. (let w = root x h in
      omega (arith, used.each w.0 w.1, ap (λ s. get_or last s 0) w.2));
  closed = λ i c h within. absurd (omega arith);
  rooted = λ r h. elim (o.there r h) [ inl some ↦ inl some | inr o' ↦ inr (inr o') ];
  in_turn = record { uses = λ i c h within. absurd (omega arith); goals_end = n.noted };
}
  where
    root : (x : ℕ) → IsOpen items x → (r : ℕ) × (r < length roots) × (get_or roots r 0 ≡ x)
    root x h = elim (o.only x h) [
      | inl before ↦
          absurd (open_none x (subst (λ xs. IsOpen xs x) empty before))
      | inr w ↦ w
    ]

pub wanted_more : {X : Type 0} (g : StepsOf) (last : List ℕ) (table : List (Option X)) (output : ℕ)
    (roots wanted h0 h1 h2 h3 : List ℕ) (below p : ℕ) (before until : List ℕ) →
    AreSteps g → AreLastMoments g last → 1 ≤ output → IsPermutation h0 (p ∷ h1)
    → ((x : ℕ) → IsOpen h2 x → x < p) →
    ((x : ℕ) → IsOpen h2 x → IsOpen h1 x) → ((x : ℕ) → x < p → IsOpen h1 x → IsOpen h2 x)
    → ((x : ℕ) → IsOpen h1 x → x ≤ p) →
    AreOpened table (uses_of g p) h2 h3 (length (uses_of g p)) →
    AreLasting before until (uses_of g p) (length (uses_of g p)) (moment output (p + 1)) →
    AreWantedFrom g last table output roots wanted h0 below before
    → AreWantedFrom g last table output roots (wanted ++ p ∷ []) h3 p until
wanted_more {X = X} g last table output roots wanted h0 h1 h2 h3 below p before until lawful moments
    some perm dropped_below dropped_kept dropped_others popped_below opened n w = record {
      small = omega (arith, w.open_below p top, w.small);
      within = λ i h. elim (place i h) [
        | inl lt ↦ omega (arith, old i lt, w.within i lt)
        | inr end ↦
            omega (arith, new i end, w.open_below p top, w.small)
      ];
      above = λ i h. elim (place i h) [
        | inl lt ↦ omega (
          arith,
          old i lt,
          w.above i lt,
          w.open_below p top,
        )
        | inr end ↦ omega (arith, new i end)
      ];
      falling = λ i j lt h. elim (place j h) [
        | inl before ↦ omega (arith, old i (omega arith), old j before, w.falling i j lt before)
        | inr end ↦ omega (
          arith,
          old i (omega arith),
          new j end,
          w.above i (omega arith),
          w.open_below p top,
        )
      ];
      needed = λ i h. elim (place i h) [
        | inl lt ↦ rw (old i lt) (w.needed i lt)
        | inr end ↦ rw (new i end) (w.open_needed p top)
      ];
      open_below = λ x h. elim (opened.only x h) [
        | inl o ↦ dropped_below x o
        | inr k ↦ omega (arith, uses_before g p k.0 lawful inside k.1, k.2)
      ];
      open_needed = λ x h. elim (opened.only x h) [
        | inl o ↦ w.open_needed x (open_left h0 h1 p x perm (dropped_kept x o))
        | inr k ↦ omega (
          arith,
          moments.closed p k.0 output inside k.1 some (w.open_needed p top),
          ap (λ s. get_or last s 0) k.2,
        )
      ];
      closed = λ i c h within. elim (place i h) [
        | inl lt ↦
            (let P : ℕ → Type 0 = λ q. c < length (uses_of g q) →
            IsSome (reference_of table (get_or (uses_of g q) c 0))
            ⊎ (IsBehind (wanted ++ p ∷ []) (i + 1) (get_or (uses_of g q) c 0)
            ⊎ IsOpen h3 (get_or (uses_of g q) c 0)) in
            subst P (sym (old i lt)) (closed_before i c lt) within)
        | inr end ↦
            (let P : ℕ → Type 0 = λ q. c < length (uses_of g q) →
            IsSome (reference_of table (get_or (uses_of g q) c 0))
            ⊎ (IsBehind (wanted ++ p ∷ []) (i + 1) (get_or (uses_of g q) c 0)
            ⊎ IsOpen h3 (get_or (uses_of g q) c 0)) in
            subst P (sym (new i end)) (closed_here i c) within)
      ];
      rooted = λ r h. elim (w.rooted r h) [
        | inl some ↦ inl some
        | inr there ↦
            inr (moved 0 (get_or roots r 0) (omega arith) there)
      ];
      in_turn = record {
        uses = λ i c h within. elim (place i h) [
          | inl lt ↦
              subst (IsUsed c) (sym (old i lt)) (λ within place. omega (
                arith,
                w.in_turn.uses i c lt within (omega (arith, place, n.size)),
                n.grown (get_or (uses_of g (get_or wanted i 0)) c 0),
              )) within
          | inr end ↦ subst (IsUsed c) (sym (new i end)) (n.noted c) within
        ];
        goals_end = λ r h place. omega (
          arith,
          w.in_turn.goals_end r h (omega (arith, place, n.size)),
          n.grown (get_or roots r 0),
        );
      };
    }
  where
    size : length (wanted ++ p ∷ []) ≡ length wanted + 1
    size = length-append wanted (p ∷ [])

    top : IsOpen h0 p
    top = open_top h0 h1 p perm

    inside : p < steps_in g.pair
    inside = omega (arith, w.open_below p top, w.small)

    -- until when a step is used that another uses
    IsUsed : ℕ → ℕ → Type 0
    IsUsed c q = c < length (uses_of g q) → get_or (uses_of g q) c 0 < length until
        → moment output (q + 1) ≤ get_or until (get_or (uses_of g q) c 0) 0

    place : (i : ℕ) → i < length (wanted ++ p ∷ []) → (i < length wanted) ⊎ (i ≡ length wanted)
    place i h = elim (cases_eq i (length wanted)) [
      | inl same ↦ inr same
      | inr apart ↦
          inl (omega (arith, size))
    ]

    old : (i : ℕ) → i < length wanted → get_or (wanted ++ p ∷ []) i 0 ≡ get_or wanted i 0
    old i lt = get_or_append_left wanted (p ∷ []) 0 i lt

    new : (i : ℕ) → i ≡ length wanted → get_or (wanted ++ p ∷ []) i 0 ≡ p
    new i end = ap (λ j. get_or (wanted ++ p ∷ []) j 0) end ∙ get_or-append_seam wanted p [] 0

    moved : (n s : ℕ) → n ≤ length wanted → IsBehind wanted n s ⊎ IsOpen h0 s
        → IsBehind (wanted ++ p ∷ []) n s ⊎ IsOpen h3 s
    moved n s le (inl b) = inl (b.0, b.1, omega (arith, b.2, size), old b.0 b.2 ∙ b.3)
    moved n s le (inr o) = elim (cases_eq s p) [
      | inl same ↦ inl (length wanted, le, omega (arith, size), new (length wanted) refl ∙ sym same)
      | inr apart ↦ elim (open_popped h0 h1 p s perm o) [
        | inl same ↦ absurd (apart same)
        | inr q ↦ inr (opened.kept s (dropped_others s (omega (arith, popped_below s q)) q))
      ]
    ]

    closed_before : (i c : ℕ) → i < length wanted → c < length (uses_of g (get_or wanted i 0)) →
        IsSome (reference_of table (get_or (uses_of g (get_or wanted i 0)) c 0)) ⊎
        (IsBehind (wanted ++ p ∷ []) (i + 1) (get_or (uses_of g (get_or wanted i 0)) c 0)
        ⊎ IsOpen h3 (get_or (uses_of g (get_or wanted i 0)) c 0))
    closed_before i c lt within = elim (w.closed i c lt within) [
      | inl some ↦ inl some
      | inr there ↦
          inr (moved (i + 1) (get_or (uses_of g (get_or wanted i 0)) c 0) (omega arith) there)
    ]

    closed_here : (i c : ℕ) → c < length (uses_of g p) →
        IsSome (reference_of table (get_or (uses_of g p) c 0))
        ⊎ (IsBehind (wanted ++ p ∷ []) (i + 1) (get_or (uses_of g p) c 0)
        ⊎ IsOpen h3 (get_or (uses_of g p) c 0))
    closed_here i c lt = elim (opened.there c lt) [ inl some ↦ inl some | inr o ↦ inr (inr o) ]

pub wanted_done : {X : Type 0} (g : StepsOf) (last : List ℕ) (table : List (Option X)) (output : ℕ)
    (roots wanted items : List ℕ) (below : ℕ) (until : List ℕ) →
    items ≡ [] → AreWantedFrom g last table output roots wanted items below until
    → AreWanted g last table output wanted
wanted_done g last table output roots wanted items below until empty w = record {
  within = w.within;
  falling = w.falling;
  needed = w.needed;
  closed = λ i c h lt.
      elim (w.closed i c h lt) [
        | inl some ↦ inl some
        | inr there ↦
            elim there [
              | inl behind ↦ inr behind
              | inr o ↦ absurd (open_none (get_or (uses_of g (get_or wanted i 0)) c 0)
                  (subst (λ xs. IsOpen xs (get_or (uses_of g (get_or wanted i 0)) c 0)) empty o))
            ]
      ];
}

pub wanted_roots : {X : Type 0} (g : StepsOf) (last : List ℕ) (table : List (Option X)) (output : ℕ)
    (roots wanted items : List ℕ) (below : ℕ) (until : List ℕ) →
    items ≡ [] → AreWantedFrom g last table output roots wanted items below until
    → AreReached table wanted roots
wanted_roots g last table output roots wanted items below until empty w = record {
  each = λ r h.
      elim (w.rooted r h) [
        | inl some ↦ inl some
        | inr there ↦ elim there [
          | inl behind ↦ inr behind
          | inr o ↦
              absurd (open_none (get_or roots r 0) (subst (λ xs. IsOpen xs (get_or roots r 0)) empty o))
        ]
      ];
}

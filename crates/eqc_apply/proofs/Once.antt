-- Held that are held once each, and what a step makes of them.
use Rattle.std.proofs.Common.{◌≡◌, ◌≢◌, ℕ, zero, suc, ◌+◌, ◌^◌, ◌<◌, ◌≤◌, List, [], ◌∷◌, ◌++◌}
use Rattle.std.proofs.Common.{length, get_or, set, min, Bool, if◌then◌else◌, Option, refl, sym, ap}
use Rattle.std.proofs.Common.{subst, ◌∙◌, arith, inl, inr}
use Rattle.std.proofs.lemmas.List.{get_or-set_same, get_or-set_other}
use native.Mathlib.Decide.{ℕ_discrete, dec_le}
use Rattle.eqc_core.specs.View.{View, Hand}
use Rattle.eqc_core.specs.Words.{times, slots_of}
use Rattle.eqc_core.specs.Moves.{without}
use Rattle.eqc_core.proofs.Names.{times-append, times-nil, times-same, times-other, times-without}
use Rattle.eqc_core.proofs.Names.{times-without_other, times_without_le, length-without_one}
use Rattle.eqc_core.proofs.Names.{two_cases, times-slots_of}
use Rattle.eqc_guard.specs.Known.{Known, IsHeld, IsNamed, IsKnown, tree_of}
use Rattle.eqc_core.specs.Counting.{upped, downed}
use Rattle.eqc_guard.specs.Standing.{Standing, Steps}
use Rattle.eqc_guard.proofs.Acquiring.{constant_trees}
use Rattle.eqc_guard.proofs.Learning.{held_named}
use Rattle.eqc_arena.specs.Changing.{Changes, Exchanges}
use Rattle.eqc_arena.specs.Nodes.{MayCount}
use Rattle.eqc_arena.proofs.References.{gives}
use Rattle.eqc_arena.proofs.Changing.{ups, names_now, held_still, same_tree}
use Rattle.eqc_arena.proofs.Resting.{rest_now}
use Rattle.eqc_apply.specs.Names.{refs_of, Has, IsCounted, Settles, SameReferences, IsThere}
use Rattle.eqc_apply.specs.Before.{IsBefore, IsSeat}

strictly : (n x : ℕ) → x < suc n → (n ≢ x) → x < n
strictly n x below other = elim (dec_le (suc x) n) [
  | yes h ↦ omega arith
  | no m ↦
      absurd (other (omega arith))
]

-- as many names as there are numbers below n, where each stands once
pub few_once : (n : ℕ) (xs : List ℕ) → ((x : ℕ) → times x xs ≤ 1) → ((x : ℕ) → 0 < times x xs
    → x < n) → length xs ≤ n
few_once zero [] once below = omega arith
few_once zero (x ∷ xs) once below = absurd (let b : x < 0 =
    below x (omega (arith, times-same x x xs refl)) in omega arith)
few_once (suc n) xs once below = elim (dec_le 1 (times n xs)) [
  | yes h ↦ omega (
    arith,
    length-without_one n xs h,
    few_once n (without n xs)
        (λ x. omega (arith, once x, times_without_le x n xs)) (λ x p. smaller x p (ℕ_discrete n x)),
  )
  | no m ↦ omega (
    arith,
    few_once n xs once (λ x h. strictly n x (below x h)
        (λ e. m (subst (λ (z : ℕ). 1 ≤ times z xs) (sym e) h))),
  )
]
  where
    smaller : (x : ℕ) → 0 < times x (without n xs) → Dec (n ≡ x) → x < n
    smaller x p (yes e) = absurd (
        let q : 0 < times n (without n xs) = subst (λ (z : ℕ). 0 < times z (without n xs)) (sym e) p
        in
        omega (arith, times-without n xs (omega (arith, times_without_le n n xs)), once n))
    smaller x p (no d) = strictly n x (below x (omega (arith, times-without_other x n xs d))) d

-- what a worker with these counts holds
module _ {more : List ℕ} {n : ℕ} {s : Standing} {counts : List ℕ} (h : Has more n s counts) where
  -- what is counted is held
  pub counted_held : (x : ℕ) → IsCounted counts x → IsHeld s.known.core x
  counted_held x (inl small) = inl small
  counted_held x (inr some) = elim (dec_le 2 x) [
    | yes two ↦ inr (omega (arith, h.once x two))
    | no m ↦ inl (omega arith)
  ]

-- what a worker holds, where nothing more has come
module _ {n : ℕ} {s : Standing} {counts : List ℕ} (h : Has [] n s counts) where
  -- what is held is counted
  pub held_counted : (x : ℕ) → IsHeld s.known.core x → IsCounted counts x
  held_counted x (inl small) = inl small
  held_counted x (inr some) = elim (dec_le 2 x) [
    | yes two ↦
        inr (omega (arith, h.once x two, times-nil x))
    | no m ↦ inl (omega arith)
  ]

  at_most_once : IsKnown s.known → (x : ℕ) → times x s.known.core.held ≤ 1
  at_most_once known x = elim (dec_le 2 x) [
    | yes two ↦ omega (arith, h.once x two, times-nil x)
    | no m ↦ elim (dec_le 1 (times x s.known.core.held)) [
      | yes some ↦
          absurd (m (known.slots x some))
      | no none ↦ omega arith
    ]
  ]

  there : IsKnown s.known → (x : ℕ) → 0 < times x s.known.core.held → x < s.known.core.sizes.names
  there known x some = known.below x (known.slots x some) (held_named s.known.core x some)

  -- no more names are held than there are
  pub few_held : IsKnown s.known → length s.known.core.held ≤ 2 ^ 20
  few_held known = let few = few_once s.known.core.sizes.names s.known.core.held
      (at_most_once known) (there known) in let limit = known.limit in omega arith

-- a change leaves the worker who it was
pub seat_of : {gone came : List ℕ} {hand : Option Hand} {draft : Option ℕ} {old new : Standing}
    → Changes gone came hand draft old new → IsSeat old.known.core new.known.core
seat_of t = record {
  sizes = ap (λ (v : View). v.sizes) t.core;
  number = ap (λ (v : View). v.number) t.core;
  out = ap (λ (v : View). v.out) t.core;
}

-- what holds after some names went and others came
module _ {gone came : List ℕ} {old new : Standing} (t : Exchanges gone came old new) where
  -- the counts are as they were: names that went stood beside them, and so do those that came
  pub has_after : (more left : List ℕ) (n : ℕ) (counts : List ℕ)
      → ((x : ℕ) → times x left + times x gone ≡ times x more + times x came)
      → Has more n old counts → Has left n new counts
  has_after more left n counts balance h = record {
    rest = rest_now h.rest t;
    cells = subst (λ (v : View). 0 < v.sizes.cells) (sym t.core) h.cells;
    range = h.range ∙ sym (ap (λ (v : View). v.sizes.variables) t.core);
    constants = h.constants;
    once = λ x two. omega (arith, h.once x two, names_now t x, balance x);
  }

  -- what was counted stays, where only what stood beside the counts went
  pub settles_after : (more : List ℕ) (n : ℕ) (counts : List ℕ)
      → ((x : ℕ) → times x gone ≤ times x more) → Has more n old counts → Settles counts old new
  settles_after more n counts beside h = record {
    forest = t.forest;
    seat = seat_of t;
    held = held;
    tree = tree;
  }
    where
      held : (x : ℕ) → IsCounted counts x → IsHeld new.known.core x
      held x (inl small) = inl small
      held x (inr some) = elim (dec_le 2 x) [
        | yes two ↦
            inr (omega (arith, h.once x two, names_now t x, beside x))
        | no m ↦ inl (omega arith)
      ]

      tree : (x : ℕ) → IsCounted counts x → tree_of new.known x ≡ tree_of old.known x
      tree x (inl small) = constant_trees new.known.trees old.known.trees x small (ℕ_discrete x 0)
          (ℕ_discrete x 1)
      tree x (inr some) = elim (dec_le 2 x) [
        | yes two ↦ t.trees x two (omega (arith, h.once x two, beside x))
        | no m ↦ constant_trees new.known.trees old.known.trees x (omega arith) (ℕ_discrete x 0)
            (ℕ_discrete x 1)
      ]

-- counts that say the same
pub has_same : (more : List ℕ) (n : ℕ) (s : Standing) (old new : List ℕ)
    → ((x : ℕ) → get_or new x 0 ≡ get_or old x 0) → Has more n s old → Has more n s new
has_same more n s old new same h = record {
  rest = h.rest;
  cells = h.cells;
  range = h.range;
  constants = λ x small. same x ∙ h.constants x small;
  once = λ x two. omega (arith, h.once x two, same x);
}

-- a name that stands beside the counts, or comes, is counted
pub has_counted : (more : List ℕ) (x n : ℕ) (s : Standing) (old new : List ℕ) → 2 ≤ x
    → ((y : ℕ) → get_or new y 0 ≡ get_or old y 0) →
    get_or old x 0 ≡ 0 → x < length new → Has (x ∷ more) n s old → Has more n s (set new x 1)
has_counted more x n s old new two same none room h = record {
  rest = h.rest;
  cells = h.cells;
  range = h.range;
  constants = λ y small. get_or-set_other new x y 1 0 (λ e. absurd (omega arith))
      ∙ (same y ∙ h.constants y small);
  once = λ y two. once y two (ℕ_discrete x y);
}
  where
    once : (y : ℕ) → 2 ≤ y → Dec (x ≡ y) → times y s.known.core.held
        ≡ min 1 (get_or (set new x 1) y 0) + times y more
    once y two (yes e) =
        subst (λ (z : ℕ). times z s.known.core.held ≡ min 1 (get_or (set new x 1) z 0)
        + times z more) e
        (omega (
          arith,
          h.once x (omega arith),
          get_or-set_same new x 1 0 room,
          times-same x x more refl,
          none,
        ))
    once y two (no d) = omega (
      arith,
      h.once y two,
      get_or-set_other new x y 1 0 (λ e. d (sym e)),
      same y,
      times-other y x more d,
    )

-- no references stand on it
pub same_counted : (x : ℕ) (old new : List ℕ) → ((y : ℕ) → get_or new y 0 ≡ get_or old y 0)
    → get_or old x 0 ≡ 0 → x < length new → SameReferences old (set new x 1)
same_counted x old new same none room y = elim (ℕ_discrete x y) [
  | yes e ↦ subst (λ (z : ℕ). refs_of (set new x 1) z ≡ refs_of old z) e
      (omega (arith, get_or-set_same new x 1 0 room, none))
  | no d ↦ omega (arith, get_or-set_other new x y 1 0 (λ e. d (sym e)), same y)
]

pub same_as : (old new : List ℕ) → ((y : ℕ) → get_or new y 0 ≡ get_or old y 0)
    → SameReferences old new
same_as old new same y = omega (arith, same y)

-- what settles extends what was held
pub settles_before : {n : ℕ} {s t : Standing} {counts : List ℕ} → Has [] n s counts
    → Settles counts s t → IsBefore s.known t.known
settles_before h e = record {
  held = λ x p. e.held x (held_counted h x p);
  tree =
      λ x p. e.tree x (held_counted h x p);
}

-- a change in which nothing goes leaves what was held
pub changes_before : {came : List ℕ} {hand : Option Hand} {draft : Option ℕ} {old new : Standing}
    → Changes [] came hand draft old new → IsBefore old.known new.known
changes_before t = record { held = held_still t; tree = same_tree t }

pub before_refl : (k : Known) → IsBefore k k
before_refl k = record { held = λ x p. p; tree = λ x p. refl }

pub before_trans : {a b c : Known} → IsBefore a b → IsBefore b c → IsBefore a c
before_trans p q = record {
  held = λ x h. q.held x (p.held x h);
  tree = λ x h. q.tree x (p.held x h)
      ∙ p.tree x h;
}

pub seat_refl : (v : View) → IsSeat v v
seat_refl v = record { sizes = refl; number = refl; out = refl }

pub seat_trans : {u v w : View} → IsSeat u v → IsSeat v w → IsSeat u w
seat_trans p q = record {
  sizes = q.sizes ∙ p.sizes;
  number = q.number ∙ p.number;
  out = q.out
      ∙ p.out;
}

-- the same names stand beside the counts, in another order
pub has_as : (more left : List ℕ) (n : ℕ) (s : Standing) (counts : List ℕ)
    → ((x : ℕ) → times x left ≡ times x more) → Has more n s counts → Has left n s counts
has_as more left n s counts same h = record {
  rest = h.rest;
  cells = h.cells;
  range = h.range;
  constants = h.constants;
  once = λ x two. omega (arith, h.once x two, same x);
}

-- a name that stands beside the counts, with others
module _ (x n : ℕ) (more : List ℕ) (s : Standing) (counts : List ℕ) (h : Has (slots_of (x ∷ [])
    ++ more) n s counts) where
  -- is held
  pub beside_held : IsHeld s.known.core x
  beside_held = elim (two_cases x) [
    | inl t ↦ inl t.1
    | inr t ↦ inr (omega (
      arith,
      h.once x t.1,
      times-append x (slots_of (x ∷ [])) more,
      times-slots_of x (x ∷ []) t.1,
      times-same x x [] refl,
    ))
  ]

  -- it is given back
  module _ (new : Standing) (known : IsKnown s.known) (constant : x < 2 → new ≡ s) (step : 2 ≤ x
      → Steps s (downed s.known.core x) new) where
    gone : Exchanges (slots_of (x ∷ [])) [] s new
    gone = gives x s new known beside_held constant step

    pub back_has : Has more n new counts
    back_has = has_after gone (slots_of (x ∷ []) ++ more) more n counts
        (λ y. omega (arith, times-append y (slots_of (x ∷ [])) more, times-nil y)) h

    pub back_settles : Settles counts s new
    back_settles = settles_after gone (slots_of (x ∷ []) ++ more) n counts
        (λ y. omega (arith, times-append y (slots_of (x ∷ [])) more)) h

    pub back_there : IsCounted counts x → IsThere x s new
    back_there c = (back_settles.held x c, back_settles.tree x c)

  -- it is counted instead
  pub kept_has : 2 ≤ x → get_or counts x 0 ≡ 0 → x < length counts → Has more n s (set counts x 1)
  kept_has two none room =
      has_counted more x n s counts counts two (λ y. refl) none room
      (has_as (slots_of (x ∷ []) ++ more) (x ∷ more) n s counts
      (λ y. omega (
        arith,
        times-append y (slots_of (x ∷ [])) more,
        times-slot y,
        times-one y more,
      )) h)
    where
      times-slot : (y : ℕ) → times y (slots_of (x ∷ [])) ≡ times y (x ∷ [])
      times-slot y = elim (two_cases x) [
        | inl t ↦ absurd (let small = t.1 in omega arith)
        | inr t ↦
            ap (λ (b : Bool). times y (if b then [] else x ∷ [])) t.0
      ]

      times-one : (y : ℕ) (ys : List ℕ) → times y (x ∷ ys) ≡ times y (x ∷ []) + times y ys
      times-one y ys = times-append y (x ∷ []) ys

-- one name more comes, and is counted
module _ (x n : ℕ) (old new : List ℕ) (s t : Standing) (two : 2 ≤ x) (none : get_or old x 0 ≡ 0)
    (same : (y : ℕ) → get_or new y 0 ≡ get_or old y 0) (room : x < length new)
    (step : Steps s (upped s.known.core x) t) where
  come : Exchanges [] (x ∷ []) s t
  come = ups x s t step

  pub more_has : Has [] n s old → Has [] n t (set new x 1)
  more_has h = has_counted [] x n t old new two same none room (has_after come [] (x ∷ []) n old
      (λ y. omega (arith, times-nil y)) h)

  pub more_settles : Has [] n s old → Settles old s t
  more_settles h = settles_after come [] n old (λ y. omega arith) h

  pub more_held : IsHeld t.known.core x
  more_held = inr (omega (arith, names_now come x, times-same x x [] refl, times-nil x))

-- nothing happened
pub settles_refl : {more : List ℕ} {n : ℕ} {s : Standing} {counts : List ℕ} → Has more n s counts
    → Settles counts s s
settles_refl h = record {
  forest = refl;
  seat = seat_refl _;
  held = λ x c. counted_held h x c;
  tree = λ x c. refl;
}

-- what may be counted is named
pub named_is : (v : View) (x : ℕ) → MayCount v x → IsNamed v x
named_is v x (inl small) = inl small
named_is v x (inr p) = inr p.0

-- a name that is no constant is held itself
pub held_some : (v : View) (x : ℕ) → 2 ≤ x → IsHeld v x → 0 < times x v.held
held_some v x two (inl small) = absurd (omega arith)
held_some v x two (inr some) = some

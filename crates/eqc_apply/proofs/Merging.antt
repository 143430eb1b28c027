-- Two tables of counts of what a worker holds become one.
use Rattle.std.proofs.Common.{◌≡◌, ◌≢◌, ℕ, ◌+◌, ◌-◌, ◌^◌, ◌<◌, ◌≤◌, List, [], ◌∷◌, length, get_or}
use Rattle.std.proofs.Common.{set, min, refl, sym, ap, subst, ◌∙◌, arith, inl, inr}
use native.Mathlib.Decide.{ℕ_discrete, dec_le}
use Rattle.std.proofs.lemmas.List.{get_or-set_same, get_or-set_other, get_or_default, get_or_past}
use Rattle.std.proofs.lemmas.List.{length-set}
use Rattle.eqc_core.specs.View.{View}
use Rattle.eqc_core.specs.Words.{times, slots_of}
use Rattle.eqc_core.specs.Seating.{IsAtRest}
use Rattle.eqc_core.specs.Counting.{downed}
use Rattle.eqc_core.proofs.Names.{times-nil, times-same, times-other, times-slots_of}
use Rattle.eqc_guard.specs.Known.{IsHeld, IsKnown, tree_of}
use Rattle.eqc_guard.specs.Standing.{Standing, Steps}
use Rattle.eqc_guard.proofs.Acquiring.{constant_trees}
use Rattle.eqc_guard.proofs.Learning.{held_named}
use Rattle.eqc_arena.specs.Changing.{Exchanges}
use Rattle.eqc_arena.proofs.Changing.{names_now}
use Rattle.eqc_arena.proofs.Resting.{rest_now}
use Rattle.eqc_arena.proofs.References.{gives}
use Rattle.eqc_apply.specs.Names.{Has}
use Rattle.eqc_apply.specs.Before.{IsBefore}
use Rattle.eqc_apply.specs.Joining.{HasTwo, both_refs, AreOrdered, Merges, IsMerged}
use Rattle.eqc_apply.proofs.Once.{seat_of, seat_refl, seat_trans, before_refl, before_trans}

-- two counts of x become one, which counts as many references
refs_set : (c d : List ℕ) (x m : ℕ) → x < length c → x < length d → m - 1 ≡ both_refs c d x
    → (y : ℕ) → both_refs (set c x m) (set d x 0) y ≡ both_refs c d y
refs_set c d x m in_c in_d e y = go (ℕ_discrete x y)
  where
    go : Dec (x ≡ y) → both_refs (set c x m) (set d x 0) y ≡ both_refs c d y
    go (yes is) = subst (λ (z : ℕ). both_refs (set c x m) (set d x 0) z ≡ both_refs c d z) is
        (omega (arith, get_or-set_same c x m 0 in_c, get_or-set_same d x 0 0 in_d))
    go (no n) = omega (
      arith,
      get_or-set_other c x y m 0 (λ e. n (sym e)),
      get_or-set_other d x y 0
          0 (λ e. n (sym e)),
    )

-- and x is held once then
two_set : (n x m : ℕ) (c d : List ℕ) (old new : Standing) → x < length c → x < length d → 2 ≤ x
    → HasTwo n old c d → IsAtRest new.known.core → new.known.core.sizes ≡ old.known.core.sizes
    → times x new.known.core.held ≡ min 1 m → ((y : ℕ) → y ≢ x → 2 ≤ y → times y new.known.core.held
    ≡ times y old.known.core.held) → HasTwo n new (set c x m) (set d x 0)
two_set n x m c d old new in_c in_d two h rest sizes one others = record {
  rest = rest;
  cells = subst (λ (k : ℕ). 0 < k) (sym (ap (λ z. z.cells) sizes)) h.cells;
  range = h.range ∙ sym (ap (λ z. z.variables) sizes);
  constants = λ y small.
      let differ : y ≢ x = λ e. absurd (omega arith) in (
        get_or-set_other c x y m 0 differ ∙ (h.constants y small).0,
        get_or-set_other d x y 0 0
            differ ∙ (h.constants y small).1,
      );
  both = λ y up. go y up (ℕ_discrete x y);
}
  where
    go : (y : ℕ) → 2 ≤ y → Dec (x ≡ y) → times y new.known.core.held
        ≡ min 1 (get_or (set c x m) y 0) + min 1 (get_or (set d x 0) y 0)
    go y up (yes is) =
        subst
        (λ (z : ℕ).
        times z new.known.core.held ≡ min 1 (get_or (set c x m) z 0)
        + min 1 (get_or (set d x 0) z 0)) is (omega (
          arith,
          one,
          get_or-set_same c x m 0 in_c,
          get_or-set_same d x 0 0 in_d,
        ))
    go y up (no n) = omega (
      arith,
      others y (λ e. n (sym e)) up,
      h.both y up,
      get_or-set_other c x y
          m 0 (λ e. n (sym e)),
      get_or-set_other d x y 0 0 (λ e. n (sym e)),
    )

-- nothing happened
pub merges_refl : (s : Standing) (c d : List ℕ) → Merges s c d s c d
merges_refl s c d = record {
  forest = refl;
  seat = seat_refl s.known.core;
  before =
      before_refl s.known;
  references = λ x. refl;
  lengths = refl;
  left_lengths = refl;
}

pub merges_trans : {a b t : Standing} {c d e f g h : List ℕ} → Merges a c d b e f
    → Merges b e f t g h → Merges a c d t g h
merges_trans p q = record {
  forest = q.forest ∙ p.forest;
  seat = seat_trans p.seat q.seat;
  before = before_trans p.before q.before;
  references = λ x. q.references x ∙ p.references x;
  lengths = q.lengths ∙ p.lengths;
  left_lengths = q.left_lengths ∙ p.left_lengths;
}

-- the counts of x that were read
module _ (x n first second : ℕ) (c d : List ℕ) (old : Standing) (in_c : x < length c) (in_d : x
    < length d) (read : first ≡ get_or c x first)
    (read_more : second ≡ get_or d x second) (some : second ≢ 0) (h : HasTwo n old c d) where
  pub first_is : get_or c x 0 ≡ first
  first_is = sym (get_or_default c x first 0 in_c) ∙ sym read

  pub second_is : get_or d x 0 ≡ second
  second_is = sym (get_or_default d x second 0 in_d) ∙ sym read_more

  is_slot : 2 ≤ x
  is_slot = elim (dec_le 2 x) [
    | yes two ↦ two
    | no small ↦
        absurd (some (sym second_is ∙ (h.constants x (omega arith)).1))
  ]

  -- the other table alone counts it
  module _ (none : first ≡ 0) where
    pub moved_has : HasTwo n old (set c x second) (set d x 0)
    moved_has = two_set n x second c d old old in_c in_d is_slot h h.rest refl
        (omega (arith, h.both x is_slot, first_is, second_is)) (λ y other up. refl)

    pub moved : Merges old c d old (set c x second) (set d x 0)
    moved = record {
      forest = refl;
      seat = seat_refl old.known.core;
      before = before_refl old.known;
      references = refs_set c d x second in_c in_d (omega (arith, first_is, second_is));
      lengths = length-set c x second;
      left_lengths = length-set d x 0;
    }

  -- both count it
  module _ (more : first ≢ 0) where
    held_twice : times x old.known.core.held ≡ 2
    held_twice = omega (arith, h.both x is_slot, first_is, second_is)

    pub is_held : IsHeld old.known.core x
    is_held = inr (omega (arith, held_twice))

    pub is_small : IsKnown old.known → x < 2 ^ 20
    is_small known = let limit = known.limit in
        omega (
          arith,
          known.below x is_slot (held_named old.known.core x
              (omega (arith, held_twice))),
        )

    module _ (name : ℕ) (is : name ≡ x) (new : Standing) (known : IsKnown old.known)
        (constant : name < 2 → new ≡ old) (step : 2 ≤ name → Steps old (downed old.known.core name)
        new) where
      gone : Exchanges (slots_of (x ∷ [])) [] old new
      gone = subst (λ (y : ℕ). Exchanges (slots_of (y ∷ [])) [] old new) is
          (gives name old new known (subst (λ (y : ℕ). IsHeld old.known.core y) (sym is) is_held)
          constant step)

      once : times x new.known.core.held ≡ 1
      once = omega (
        arith,
        held_twice,
        names_now gone x,
        times-slots_of x (x ∷ []) is_slot,
        times-same x x [] refl,
        times-nil x,
      )

      others : (y : ℕ) → y ≢ x → 2 ≤ y → times y new.known.core.held ≡ times y old.known.core.held
      others y other up = omega (
        arith,
        names_now gone y,
        times-slots_of y (x ∷ []) up,
        times-other y x [] (λ e. other (sym e)),
        times-nil y,
      )

      pub merged_has : (m : ℕ) → m ≡ first + (second - 1) → HasTwo n new (set c x m) (set d x 0)
      merged_has m sum = two_set n x m c d old new in_c in_d is_slot h
          (rest_now h.rest gone)
          (ap (λ (v : View). v.sizes) gone.core) (omega (arith, once)) others

      before : IsBefore old.known new.known
      before = record { held = held; tree = tree }
        where
          held : (y : ℕ) → IsHeld old.known.core y → IsHeld new.known.core y
          held y (inl small) = inl small
          held y (inr there) = go (ℕ_discrete y x) (dec_le 2 y)
            where
              go : Dec (y ≡ x) → Dec (2 ≤ y) → IsHeld new.known.core y
              go (yes e) d = subst (λ (z : ℕ). IsHeld new.known.core z) (sym e)
                  (inr (omega (arith, once)))
              go (no n) (yes up) = inr (omega (arith, others y n up))
              go (no n) (no m) = inl (omega arith)

          tree : (y : ℕ) → IsHeld old.known.core y → tree_of new.known y ≡ tree_of old.known y
          tree y (inl small) = constant_trees new.known.trees old.known.trees y small
              (ℕ_discrete y 0) (ℕ_discrete y 1)
          tree y (inr there) = go (dec_le 2 y) (ℕ_discrete x y)
            where
              go : Dec (2 ≤ y) → Dec (x ≡ y) → tree_of new.known y ≡ tree_of old.known y
              go (no m) d = constant_trees new.known.trees old.known.trees y (omega arith)
                  (ℕ_discrete y 0) (ℕ_discrete y 1)
              go (yes up) (yes e) =
                  subst (λ (z : ℕ). tree_of new.known z ≡ tree_of old.known z) e
                  (gone.trees x is_slot (omega (
                    arith,
                    held_twice,
                    times-slots_of x (x ∷ [])
                        is_slot,
                    times-same x x [] refl,
                    times-nil x,
                  )))
              go (yes up) (no n) = gone.trees y up (omega (
                arith,
                times-slots_of y (x ∷ []) up,
                times-other y x [] n,
                times-nil y,
              ))

      pub merged : (m : ℕ) → m ≡ first + (second - 1) → Merges old c d new (set c x m) (set d x 0)
      merged m sum = record {
        forest = gone.forest;
        seat = seat_of gone;
        before = before;
        references = refs_set c d x m in_c in_d (omega (arith, first_is, second_is));
        lengths = length-set c x m;
        left_lengths = length-set d x 0;
      }

-- so the other count is 0, and those before it are as before
pub none_here : (d : List ℕ) (x : ℕ) → x < length d → get_or (set d x 0) x 0 ≡ 0
none_here d x in_d = get_or-set_same d x 0 0 in_d

pub same_before : (d : List ℕ) (x : ℕ) → (y : ℕ) → y < x → get_or (set d x 0) y 0 ≡ get_or d y 0
same_before d x y lt = get_or-set_other d x y 0 0 (λ e. absurd (omega arith))

-- one table is empty: the other one counts what is held
pub one_left : (n : ℕ) (s : Standing) (c d : List ℕ) → ((x : ℕ) → get_or d x 0 ≡ 0) → HasTwo n s c d
    → Has [] n s c
one_left n s c d empty h = record {
  rest = h.rest;
  cells = h.cells;
  range = h.range;
  constants = λ x small. (h.constants x small).0;
  once = λ x two. omega (arith, h.both x two, empty x, times-nil x);
}

-- what was done for each place below n was done for all
pub all_empty : (n : ℕ) (d : List ℕ) → length d ≤ n → ((y : ℕ) → y < n → get_or d y 0 ≡ 0) → (x : ℕ)
    → get_or d x 0 ≡ 0
all_empty n d all done x = elim (dec_le (x + 1) n) [
  | yes below ↦ done x (omega arith)
  | no above ↦
      get_or_past d x 0 (omega arith)
]

-- two tables, in either order
pub two_swap : (n : ℕ) (s : Standing) (c d : List ℕ) → HasTwo n s c d → HasTwo n s d c
two_swap n s c d h = record {
  rest = h.rest;
  cells = h.cells;
  range = h.range;
  constants = λ x small. ((h.constants x small).1, (h.constants x small).0);
  both = λ x two. omega (arith, h.both x two);
}

pub ordered_has : (n : ℕ) (s : Standing) (c d e f : List ℕ) → AreOrdered c d e f → HasTwo n s c d
    → HasTwo n s e f
ordered_has n s c d e f (inl p) h = rw (p.0, p.1) h
ordered_has n s c d e f (inr p) h = rw (p.0, p.1) (two_swap n s c d h)

pub ordered_refs : (c d e f : List ℕ) → AreOrdered c d e f → (x : ℕ)
    → both_refs e f x ≡ both_refs c d x
ordered_refs c d e f (inl p) x = rw (p.0, p.1) refl
ordered_refs c d e f (inr p) x = rw (p.0, p.1) (omega arith)

-- both are merged, where the second one is empty in the end
pub merged_all : (c d e f g h : List ℕ) (old new : Standing) → AreOrdered c d e f
    → Merges old e f new g h → ((x : ℕ) → get_or h x 0 ≡ 0) → IsMerged old c d new g
merged_all c d e f g h old new order m empty = record {
  forest = m.forest;
  seat = m.seat;
  before = m.before;
  references = λ x. omega (arith, m.references x, ordered_refs c d e f order x, empty x);
}

-- one place more
pub done_more : (i : ℕ) (d e : List ℕ) → ((y : ℕ) → y < i → get_or d y 0 ≡ 0) → get_or e i 0 ≡ 0
    → ((y : ℕ) → y < i → get_or e y 0 ≡ get_or d y 0) → (y : ℕ) → y < i + 1 → get_or e y 0 ≡ 0
done_more i d e done here before y lt = elim (ℕ_discrete i y) [
  | yes is ↦
      subst (λ (z : ℕ). get_or e z 0 ≡ 0) is here
  | no n ↦ (let b : y < i = below n in before y b
      ∙ done y b)
]
  where
    below : (i ≢ y) → y < i
    below n = elim (dec_le (y + 1) i) [ yes h ↦ omega arith | no m ↦ absurd (n (omega arith)) ]

-- How many names a worker holds after a step, and that what it steps on is there.
use Rattle.std.proofs.Common.{◌≡◌, ℕ, ◌+◌, ◌-◌, ◌<◌, ◌≤◌, List, [], ◌∷◌, length, true, Option, Some}
use Rattle.std.proofs.Common.{None, length-append, refl, sym, ap, subst, ◌∙◌, arith, inl, inr}
use mathlib.Core.Option.{some}
use native.Mathlib.Decide.{ℕ_discrete, dec_le}
use lib.ListN.{get_elem?}
use Rattle.atomic_table.specs.Seated.{TableId}
use Rattle.eqc_core.specs.declared.sizes.Sizes.{Sizes}
use Rattle.eqc_core.specs.declared.phase.Phase.{Phase}
use Rattle.eqc_core.specs.declared.phase.Phase.TheVariants.{Idle, Announced}
use Rattle.eqc_core.specs.View.{View, Hand, phase_at}
use Rattle.eqc_core.specs.Words.{times, cell_names, operands, slots_of}
use Rattle.eqc_core.specs.Moves.{IsReady, AreHeld, without, without_each}
use Rattle.eqc_core.specs.Counting.{MayDown, downed}
use Rattle.eqc_core.specs.Caching.{swapped}
use Rattle.eqc_core.proofs.Lists.{get_at}
use Rattle.eqc_core.proofs.Names.{times-same, times-other, times-without, times-without_other}
use Rattle.eqc_core.proofs.Names.{times-slots_of, slots_of_slots, length-without_one}
use Rattle.eqc_guard.specs.Known.{Known, IsKnown, IsHeld, Stepped}
use Rattle.eqc_guard.specs.Standing.{IsSeated, slots_out, stripes_in}
use Rattle.eqc_guard.proofs.Learning.{held_named}

-- one name less is held
pub down_length : (v : View) (x n : ℕ) → n ≡ length v.held → MayDown v x → (0 < n)
    × (n - 1 ≡ length (downed v x).held)
down_length v x n is may = let l = length-without_one x v.held may.3 in (omega arith, omega arith)

-- a held name that is no constant may be counted down
pub may_down : (k : Known) (x : ℕ) → IsKnown k → IsReady k.core → 2 ≤ x → IsHeld k.core x
    → MayDown k.core x
may_down k x known ready two (inl lt) = absurd (omega arith)
may_down k x known ready two (inr h) = (ready, two, known.below x two (held_named k.core x h), h)

-- the cell of an announced phase is there
pub announced_there : (k : Known) (j : ℕ) (p : Phase) (c word : ℕ) → IsKnown k
    → j < length k.core.phases → phase_at k.core j ≡ p → p ≡ Announced c word →
    (phase_at k.core j ≡ Announced c word) × (c < k.core.sizes.cells)
announced_there k j p c word known lt phase is =
    let here : get_elem? k.core.phases j ≡ some (Announced c word) = get_at k.core.phases j Idle lt
    ∙ ap (λ (q : Phase). some q) (phase ∙ is) in
    (phase ∙ is, (known.phases j (Announced c word) here).0)

-- a worker's fields fit its seat after a step, where they are those of the new view
module _ {S : Type 0} (seat_table table : TableId) (key sizes : Sizes) (me : Known
    × List (ℕ × S)) (number held : ℕ) (phases : List Phase)
    (retired noted : List ℕ) (position given : ℕ) (out : List ℕ) (draft : Option ℕ)
    (is : IsSeated seat_table table key sizes me number held phases retired noted position given out
    draft) where
  pub seated_with : (seat_table' : TableId) (me' : Known × List (ℕ × S)) (v : View) (held' : ℕ)
      (phases' : List Phase)
      (retired' noted' : List ℕ) (position' given' : ℕ) (out' : List ℕ) (draft' : Option ℕ)
      → seat_table' ≡ seat_table → me'.0.core ≡ v → IsKnown me'.0
      → slots_out me'.1 ≡ stripes_in v.hand → v.sizes ≡ me.0.core.sizes → v.active ≡ true
      → v.number ≡ me.0.core.number
      → held' ≡ length v.held → v.phases ≡ phases' → retired' ≡ v.retired → noted' ≡ v.noted
      → position' ≡ v.position → given' ≡ v.given → out' ≡ v.out → draft' ≡ v.draft
      → IsSeated seat_table' table key sizes me' number held' phases' retired' noted' position'
      given' out' draft'
  seated_with seat_table' me' v held' phases' retired' noted' position' given' out' draft' same core
      knows carries size on num h p r n pos giv o d =
      let e : v ≡ me'.0.core = sym core in
      let old = is.worker in
      record {
        one_table = same ∙ is.one_table;
        one_key = is.one_key;
        worker = record {
          words = old.words;
          limits = old.limits;
          few_words = old.few_words;
          few_announced = old.few_announced;
          few_workers = old.few_workers;
          sizes = ap (λ (u : View). u.sizes) (sym e) ∙ (size ∙ old.sizes);
          active = ap (λ (u : View). u.active) (sym e) ∙ on;
          number = subst (λ (k : ℕ). k < sizes.workers) (sym num ∙ ap (λ (u : View). u.number) e)
              old.number;
          known = knows;
        };
        carries = carries ∙ ap (λ (u : View). stripes_in u.hand) e;
        number_is = is.number_is ∙ (sym num ∙ ap (λ (u : View). u.number) e);
        held_is = h ∙ ap (λ (u : View). length u.held) e;
        phases_are = ap (λ (u : View). u.phases) (sym e) ∙ p;
        retired_are = r ∙ ap (λ (u : View). u.retired) e;
        noted_are = n ∙ ap (λ (u : View). u.noted) e;
        position_is = pos ∙ ap (λ (u : View). u.position) e;
        given_is = giv ∙ ap (λ (u : View). u.given) e;
        out_is = o ∙ ap (λ (u : View). u.out) e;
        draft_is = d ∙ ap (λ (u : View). u.draft) e;
      }

  pub seated_after : (seat_table' : TableId) (me' : Known × List (ℕ × S)) (v : View) (held' : ℕ)
      (phases' : List Phase)
      (retired' noted' : List ℕ) (position' given' : ℕ) (out' : List ℕ) (draft' : Option ℕ)
      → seat_table' ≡ seat_table → Stepped me.0 v me'.0 → me'.1 ≡ me.1 → v.sizes ≡ me.0.core.sizes
      → v.active ≡ true → v.number ≡ me.0.core.number → v.hand ≡ me.0.core.hand
      → held' ≡ length v.held → v.phases ≡ phases' → retired' ≡ v.retired → noted' ≡ v.noted
      → position' ≡ v.position → given' ≡ v.given → out' ≡ v.out → draft' ≡ v.draft
      → IsSeated seat_table' table key sizes me' number held' phases' retired' noted' position'
      given' out' draft'
  seated_after seat_table' me' v held' phases' retired' noted' position' given' out' draft' same
      stepped carried size on num hand =
      seated_with seat_table' me' v held' phases' retired' noted' position' given' out' draft' same
      stepped.core stepped.known
      (ap slots_out carried ∙ (is.carries ∙ ap stripes_in (sym hand))) size on num

-- no slot is out where no stripe is in hand
pub carries_none : {S : Type 0} (me : Known × List (ℕ × S))
    → slots_out me.1 ≡ stripes_in me.0.core.hand → me.0.core.hand ≡ None → me.1 ≡ []
carries_none {S} me is none = go me.1 (is ∙ ap stripes_in none)
  where
    go : (xs : List (ℕ × S)) → slots_out xs ≡ [] → xs ≡ []
    go [] e = refl
    go (x ∷ xs) e = absurd (cc)

-- the map that is out is that of the stripe in hand
pub carries_one : {S : Type 0} (me : Known × List (ℕ × S)) (h : Hand)
    → slots_out me.1 ≡ stripes_in me.0.core.hand → me.0.core.hand ≡ Some h → (m : S)
    × (me.1 ≡ (h.stripe, m) ∷ [])
carries_one {S} me h is hand = go me.1 (is ∙ ap stripes_in hand)
  where
    go : (xs : List (ℕ × S)) → slots_out xs ≡ h.stripe ∷ [] → (m : S) × (xs ≡ (h.stripe, m) ∷ [])
    go [] e = absurd (cc)
    go (x ∷ []) e = let q : x.0 ≡ h.stripe = cc in (x.1, λ i. (q i, x.1) ∷ [])
    go (x ∷ (y ∷ xs)) e = absurd (cc)

-- as many names less, where each is there as often as it is taken away
pub length-without_all : (xs ys : List ℕ) → ((y : ℕ) → times y xs ≤ times y ys)
    → length (without_each xs ys) + length xs ≡ length ys
length-without_all [] ys fewer = omega arith
length-without_all (x ∷ xs) ys fewer =
    let some_x : 0 < times x ys = let f = fewer x in omega (arith, times-same x x xs refl) in
    let rest = length-without_all xs (without x ys) (λ y. less y some_x (ℕ_discrete x y)) in
    omega (arith, length-without_one x ys some_x)
  where
    less : (y : ℕ) → 0 < times x ys → Dec (x ≡ y) → times y xs ≤ times y (without x ys)
    less y some_x (yes e) =
        let t : 1 + times y (without x ys) ≡ times y ys =
        subst (λ (k : ℕ). 1 + times k (without x ys) ≡ times k ys) e (times-without x ys some_x)
        in
        let f = fewer y in
        omega (arith, times-same y x xs e)
    less y some_x (no n) = let f = fewer y in omega (
      arith,
      times-without_other y x ys n,
      times-other y x xs n,
    )

-- the names of a word that may be stored, and how many are held after its swap
pub slots_held : (names held : List ℕ) → AreHeld names held → (y : ℕ) → times y (slots_of names)
    ≤ times y held
slots_held names held are y = go (dec_le 2 y) (dec_le 1 (times y (slots_of names)))
  where
    go : Dec (2 ≤ y) → Dec (1 ≤ times y (slots_of names)) → times y (slots_of names) ≤ times y held
    go (yes two) d = let h = are y two in omega (arith, times-slots_of y names two)
    go (no n) (yes h) = absurd (n (slots_of_slots y names h))
    go (no n) (no m) = omega arith

pub swap_length : (v : View) (n n' old word : ℕ) → AreHeld (cell_names word) v.held
    → n ≡ length v.held →
    n' + length (slots_of (cell_names word)) ≡ n + length (slots_of (operands old))
    → n' ≡ length (swapped v old word).held
swap_length v n n' old word held is same =
    let l = length-without_all (slots_of (cell_names word)) v.held (slots_held (cell_names word)
    v.held held) in
    omega (
      arith,
      length-append (without_each (slots_of (cell_names word)) v.held)
          (slots_of (operands old)),
    )

pub given_few : (v : View) (word : ℕ) → AreHeld (cell_names word) v.held
    → length (slots_of (cell_names word)) ≤ length v.held
given_few v word held = let l = length-without_all (slots_of (cell_names word)) v.held
    (slots_held (cell_names word) v.held held) in omega arith

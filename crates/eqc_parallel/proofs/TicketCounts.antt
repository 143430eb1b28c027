-- Sums over views, and what each step does to the counts.
use Rattle.std.proofs.Common.{◌≡◌, ◌≢◌, ℕ, zero, suc, ◌+◌, ◌-◌, ◌^◌, ◌<◌, ◌≤◌, List, [], ◌∷◌, ◌++◌}
use Rattle.std.proofs.Common.{set, eqb, ltb, if◌then◌else◌, eq-eqb, ne_eqb, lt-ltb, le-ltb, refl}
use Rattle.std.proofs.Common.{sym, ap, subst, ◌∙◌, arith, ⊎_elim}
use native.Mathlib.Decide.{ℕ_discrete, dec_le}
use mathlib.Core.Option.{some, some-injective, some-ne-none}
use lib.ListN.{get_elem?}
use Rattle.atomic_table.proofs.Lists.{at_set, at_snoc}
use Rattle.eqc_parallel.specs.declared.ticket.View.{View}
use Rattle.eqc_parallel.specs.declared.ticket.Key.{Key}
use Rattle.eqc_parallel.specs.Ticket.{times, strangers, total, once_below, Counts, opening_view}
use Rattle.eqc_parallel.specs.Ticket.{drew, halved, half, both, spent, IsAbove}

pub times-append : (x : ℕ) (xs ys : List ℕ) → times x (xs ++ ys) ≡ times x xs + times x ys
times-append x [] ys = omega arith
times-append x (y ∷ xs) ys = omega (arith, times-append x xs ys)

pub strangers-append : (m : ℕ) (xs ys : List ℕ) → strangers m (xs ++ ys) ≡ strangers m xs
    + strangers m ys
strangers-append m [] ys = omega arith
strangers-append m (y ∷ xs) ys = omega (arith, strangers-append m xs ys)

pub total-set : (f : View → ℕ) (vs : List View) (id : ℕ) (v w : View) → get_elem? vs id ≡ some v
    → total f (set vs id w) + f v ≡ total f vs + f w
total-set f [] id v w e = absurd (some-ne-none v (sym e))
total-set f (u ∷ vs) zero v w e = let q : f u ≡ f v = ap f (some-injective u v e) in omega arith
total-set f (u ∷ vs) (suc id) v w e = omega (arith, total-set f vs id v w e)

pub total-snoc : (f : View → ℕ) (vs : List View) (w : View) → total f (vs ++ w ∷ []) ≡ total f vs
    + f w
total-snoc f [] w = omega arith
total-snoc f (u ∷ vs) w = omega (arith, total-snoc f vs w)

-- where each is at most as large, the sums differ by what one pair differs
pub total-le : (f g : View → ℕ) (vs : List View) → ((id : ℕ) (v : View) → get_elem? vs id ≡ some v
    → f v ≤ g v) → total f vs ≤ total g vs
total-le f g [] h = omega arith
total-le f g (u ∷ vs) h = let a = h zero u refl in
    omega (arith, total-le f g vs (λ id v e. h (suc id) v e))

pub total-gap : (f g : View → ℕ) (vs : List View) (at : ℕ) (w : View) → get_elem? vs at ≡ some w
    → ((id : ℕ) (v : View) → get_elem? vs id ≡ some v → f v ≤ g v) → total f vs + g w ≤ total g vs
    + f w
total-gap f g [] at w e h = absurd (some-ne-none w (sym e))
total-gap f g (u ∷ vs) zero w e h = let a : f u ≡ f w = ap f (some-injective u w e) in
    let b : g u ≡ g w = ap g (some-injective u w e) in
    omega (arith, total-le f g vs (λ id v e. h (suc id) v e))
total-gap f g (u ∷ vs) (suc at) w e h = let a = h zero u refl in
    omega (arith, total-gap f g vs at w e (λ id v e. h (suc id) v e))

-- one number is drawn
pub once_next : (x n : ℕ) → once_below x (n + 1) ≡ once_below x n + (if eqb n x then 1 else 0)
once_next x n = go (ℕ_discrete n x) (dec_le (suc x) n)
  where
    go : Dec (n ≡ x) → Dec (suc x ≤ n) → once_below x (n + 1) ≡ once_below x n
        + (if eqb n x then 1 else 0)
    go (yes e) (yes lt) = absurd (omega arith)
    go (yes e) (no nl) = rw (eq-eqb n x e, lt-ltb x (n + 1) (omega arith), le-ltb x n (omega arith))
        refl
    go (no ne) (yes lt) = rw (
      ne_eqb n x ne,
      lt-ltb x (n + 1) (omega arith),
      lt-ltb x n (omega arith),
    ) refl
    go (no ne) (no nl) = rw (
      ne_eqb n x ne,
      le-ltb x (n + 1) (apart ne nl),
      le-ltb x n (omega arith),
    ) refl
      where
        apart : n ≢ x → ¬ (suc x ≤ n) → n + 1 ≤ x
        apart ne nl = omega arith

pub beyond_next : (m n : ℕ) → (n + 1) - m ≡ (n - m) + (if ltb n m then 0 else 1)
beyond_next m n = go (dec_le (suc n) m)
  where
    go : Dec (suc n ≤ m) → (n + 1) - m ≡ (n - m) + (if ltb n m then 0 else 1)
    go (yes lt) = rw (lt-ltb n m (omega arith)) (omega arith)
    go (no nl) = rw (le-ltb n m (omega arith)) (omega arith)

stranger_small : (m n : ℕ) → (if ltb n m then 0 else 1) ≤ 1
stranger_small m n = go (dec_le (suc n) m)
  where
    go : Dec (suc n ≤ m) → (if ltb n m then 0 else 1) ≤ 1
    go (yes lt) = rw (lt-ltb n m (omega arith)) (omega arith)
    go (no nl) = rw (le-ltb n m (omega arith)) (omega arith)

pub opens : (k : Key) → k.outputs + k.seats < 2 ^ 64 → Counts k 0 (opening_view k ∷ [])
opens k small = record {
  small = small;
  seats = omega arith;
  numbers = λ x. rw (le-ltb x 0 (omega arith)) refl;
  beyond = omega arith;
  few = first_few;
  idle = first_idle;
}
  where
    first_few : (id : ℕ) (v : View) → get_elem? (opening_view k ∷ []) id ≡ some v
        → strangers k.outputs v.drawn ≤ v.seats
    first_few zero v e = let q : opening_view k ≡ v = some-injective (opening_view k) v e in
        subst (λ (u : View). strangers k.outputs u.drawn ≤ u.seats) q (omega arith)
    first_few (suc id) v e = absurd (some-ne-none v (sym e))

    first_idle : (id : ℕ) (v : View) → get_elem? (opening_view k ∷ []) id ≡ some v → v.seats ≡ 0
        → v.drawn ≡ []
    first_idle zero v e z = let q : opening_view k ≡ v = some-injective (opening_view k) v e in
        ap (λ (u : View). u.drawn) (sym q)
    first_idle (suc id) v e z = absurd (some-ne-none v (sym e))

module _ (k : Key) (n : ℕ) (vs : List View) (h : Counts k n vs) (id : ℕ) (v : View)
    (at : get_elem? vs id ≡ some v) where
  -- the word has room while one view may draw a number more
  pub has_room : strangers k.outputs v.drawn < v.seats → n < k.outputs + k.seats
  has_room room = let a = total-gap (λ (u : View). strangers k.outputs u.drawn)
      (λ (u : View). u.seats) vs id v at h.few in let b = h.beyond in let c = h.seats in omega arith

  pub above : IsAbove n v.drawn
  above x there = go (dec_le (suc x) n)
    where
      le : times x v.drawn ≤ once_below x n
      le = let a = total-gap (λ (u : View). 0) (λ (u : View). times x u.drawn) vs id v at
          (λ i u e. omega arith) in
          let b = h.numbers x in
          let z = total-le (λ (u : View). 0) (λ (u : View). 0) vs (λ i u e. omega arith) in
          omega arith

      go : Dec (suc x ≤ n) → x < n
      go (yes lt) = lt
      go (no nl) = absurd (let q : once_below x n ≡ 0 = rw (le-ltb x n (omega arith)) refl in
          omega (arith, le))

  pub draws : strangers k.outputs v.drawn < v.seats → Counts k (n + 1) (set vs id (drew v n))
  draws room = record {
    small = h.small;
    seats = let t = total-set (λ (u : View). u.seats) vs id v w at in let s = h.seats in
        omega arith;
    numbers = λ x. let t = total-set (λ (u : View). times x u.drawn) vs id v w at in let s =
        h.numbers x in omega (arith, times-append x v.drawn (n ∷ []), once_next x n);
    beyond = let t = total-set (λ (u : View). strangers k.outputs u.drawn) vs id v w at in let s =
        h.beyond in omega (
          arith,
          strangers-append k.outputs v.drawn (n ∷ []),
          beyond_next k.outputs n,
        );
    few = λ j u e.
        ⊎_elim
        (λ (p : (j ≡ id) × (w ≡ u)). subst (λ (y : View). strangers k.outputs y.drawn ≤ y.seats) p.1
        (omega (
          arith,
          strangers-append k.outputs v.drawn (n ∷ []),
          stranger_small k.outputs
              n,
        )))
        (λ (p : (j ≢ id) × (get_elem? vs j ≡ some u)). h.few j u p.1) (at_set vs id j w u e);
    idle = λ j u e z.
        ⊎_elim (λ (p : (j ≡ id) × (w ≡ u)). absurd (let q : v.seats ≡ 0 =
        ap (λ (y : View). y.seats) p.1 ∙ z in omega arith))
        (λ (p : (j ≢ id) × (get_elem? vs j ≡ some u)). h.idle j u p.1 z) (at_set vs id j w u e);
  }
    where
      w : View
      w = drew v n

  -- a view that has drawn nothing is cut in two
  pub splits : v.drawn ≡ [] → Counts k n (set vs id (halved v) ++ half v ∷ [])
  splits none = record {
    small = h.small;
    seats = let t = total-set (λ (u : View). u.seats) vs id v (halved v) at in let s = h.seats in
        omega (arith, total-snoc (λ (u : View). u.seats) (set vs id (halved v)) (half v));
    numbers = λ x. let t = total-set (λ (u : View). times x u.drawn) vs id v (halved v) at in
        let s = h.numbers x in
        omega (arith, total-snoc (λ (u : View). times x u.drawn) (set vs id (halved v)) (half v));
    beyond = let t = total-set (λ (u : View). strangers k.outputs u.drawn) vs id v (halved v) at in
        let s = h.beyond in
        omega (
          arith,
          total-snoc (λ (u : View). strangers k.outputs u.drawn) (set vs id (halved v))
              (half v),
        );
    few = λ j u e. (each j u e).0;
    idle = λ j u e. (each j u e).1;
  }
    where
      Fits : View → Type 0
      Fits u = (strangers k.outputs u.drawn ≤ u.seats) × (u.seats ≡ 0 → u.drawn ≡ [])

      fresh : (u : View) → u.drawn ≡ [] → Fits u
      fresh u e = (rw e (omega arith), λ z. e)

      each : (j : ℕ) (u : View) → get_elem? (set vs id (halved v) ++ half v ∷ []) j ≡ some u
          → Fits u
      each j u e = ⊎_elim
          (λ (q : get_elem? (set vs id (halved v)) j ≡ some u). ⊎_elim (λ (p : (j ≡ id)
          × (halved v ≡ u)). subst Fits p.1 (fresh (halved v) none))
          (λ (p : (j ≢ id) × (get_elem? vs j ≡ some u)). (h.few j u p.1, h.idle j u p.1))
          (at_set vs id j (halved v) u q))
          (λ (p : half v ≡ u). subst Fits p (fresh (half v) refl))
          (at_snoc (set vs id (halved v)) (half v) u j e)

  -- a view takes in another
  pub joins : (other : ℕ) (o : View) → get_elem? (set vs id (both v o)) other ≡ some o → other ≢ id
      → get_elem? vs other ≡ some o → Counts k n (set (set vs id (both v o)) other spent)
  joins other o at' apart was = record {
    small = h.small;
    seats = let t = total-set (λ (u : View). u.seats) vs id v (both v o) at in let r =
        total-set (λ (u : View). u.seats) (set vs id (both v o)) other o spent at' in let s =
        h.seats in omega arith;
    numbers = λ x. let t = total-set (λ (u : View). times x u.drawn) vs id v (both v o) at in
        let r = total-set (λ (u : View). times x u.drawn) (set vs id (both v o)) other o spent at'
        in
        let s = h.numbers x in
        omega (arith, times-append x v.drawn o.drawn);
    beyond = let t = total-set (λ (u : View). strangers k.outputs u.drawn) vs id v (both v o) at in
        let r = total-set (λ (u : View). strangers k.outputs u.drawn) (set vs id (both v o)) other o
        spent at' in
        let s = h.beyond in
        omega (arith, strangers-append k.outputs v.drawn o.drawn);
    few = λ j u e. (each j u e).0;
    idle = λ j u e. (each j u e).1;
  }
    where
      Fits : View → Type 0
      Fits u = (strangers k.outputs u.drawn ≤ u.seats) × (u.seats ≡ 0 → u.drawn ≡ [])

      mine : Fits (both v o)
      mine = (
        let a = h.few id v at in let b = h.few other o was in
            omega (arith, strangers-append k.outputs v.drawn o.drawn),
        λ z. ap (λ l. l ++ o.drawn) (h.idle id v at (omega arith))
            ∙ h.idle other o was (omega arith),
      )

      none : Fits spent
      none = (omega arith, λ z. refl)

      each : (j : ℕ) (u : View) → get_elem? (set (set vs id (both v o)) other spent) j ≡ some u
          → Fits u
      each j u e = ⊎_elim (λ (p : (j ≡ other) × (spent ≡ u)). subst Fits p.1 none)
          (λ (q : (j ≢ other) × (get_elem? (set vs id (both v o)) j ≡ some u)). ⊎_elim
          (λ (p : (j ≡ id) × (both v o ≡ u)). subst Fits p.1 mine)
          (λ (p : (j ≢ id) × (get_elem? vs j ≡ some u)). (h.few j u p.1, h.idle j u p.1))
          (at_set vs id j (both v o) u q.1))
          (at_set (set vs id (both v o)) other j spent u e)

  -- a view that stands for all seats has drawn all numbers
  others_empty : v.seats ≡ k.seats → (f : View → ℕ) → ((u : View) → u.drawn ≡ [] → f u ≡ 0)
      → total f vs ≡ f v
  others_empty all f empty = only vs id at h.idle (let s = h.seats in omega arith)
    where
      zeros : (us : List View) → ((j : ℕ) (u : View) → get_elem? us j ≡ some u → u.seats ≡ 0
          → u.drawn ≡ []) → total (λ (u : View). u.seats) us ≡ 0 → total f us ≡ 0
      zeros [] i z = refl
      zeros (u ∷ us) i z = let a : u.seats ≡ 0 = omega arith in let b = empty u (i zero u refl a) in
          omega (arith, zeros us (λ j w e. i (suc j) w e) (omega arith))

      only : (us : List View) (i : ℕ) → get_elem? us i ≡ some v
          → ((j : ℕ) (u : View) → get_elem? us j ≡ some u → u.seats ≡ 0 → u.drawn ≡ []) →
          total (λ (u : View). u.seats) us ≡ v.seats → total f us ≡ f v
      only [] i e d z = absurd (some-ne-none v (sym e))
      only (u ∷ us) zero e d z = let q : u ≡ v = some-injective u v e in
          let a : f u ≡ f v = ap f q in
          let b : u.seats ≡ v.seats = ap (λ (y : View). y.seats) q in
          omega (arith, zeros us (λ j w e. d (suc j) w e) (omega arith))
      only (u ∷ us) (suc i) e d z = let g = total-gap (λ (y : View). 0) (λ (y : View). y.seats) us i
          v e (λ j w e. omega arith) in
          let n0 = total-le (λ (y : View). 0) (λ (y : View). 0) us (λ j w e. omega arith) in
          let a : u.seats ≡ 0 = omega arith in let b = empty u (d zero u refl a) in
          omega (arith, only us i e (λ j w e. d (suc j) w e) (omega arith))

  pub account : v.seats ≡ k.seats → ((x : ℕ) → times x v.drawn ≡ once_below x n)
      × (strangers k.outputs v.drawn ≡ n - k.outputs)
  account all = (
    (λ x. sym (others_empty all (λ (u : View). times x u.drawn) (λ u e. rw e refl)) ∙ h.numbers x),
    sym (others_empty all (λ (u : View). strangers k.outputs u.drawn) (λ u e. rw e refl))
        ∙ h.beyond,
  )

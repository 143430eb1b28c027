-- A stripe's map beside the table in hand: the same entries, in any order, also after one went.
use Rattle.std.proofs.Common.{◌≡◌, ◌≢◌, ℕ, zero, suc, ◌+◌, ◌-◌, ◌<◌, ◌≤◌, List, [], ◌∷◌, length}
use Rattle.std.proofs.Common.{take, set, get_or, slice_get, sum_by, eqb, ltb, cond, Some, eq-eqb}
use Rattle.std.proofs.Common.{ne_eqb, refl, sym, ap, ◌∙◌, arith, ⊎_elim}
use Rattle.std.specs.List.{swap_remove}
use Rattle.std.proofs.lemmas.Bool.{lt-ltb, le-ltb}
use Rattle.std.proofs.lemmas.List.Sums.{sum_by-cons, sum_by-swap_remove}
use mathlib.Core.Option.{some, some-ne-none, some-injective}
use native.Mathlib.Decide.{ℕ_discrete, dec_le}
use lib.ListN.{get_elem?}
use Rattle.eqc_core.specs.View.{View, Hand, hand_of}
use Rattle.eqc_core.specs.Tables.{Entries, table_has}
use Rattle.eqc_core.specs.Moves.{IsReady}
use Rattle.eqc_core.specs.Locking.{SameEntries, locked}
use Rattle.eqc_core.specs.Making.{without_slot}
use Rattle.eqc_core.proofs.Lists.{at_set, at_get, at_below, get_at}
use Rattle.eqc_core.proofs.Sums.{at_le_sum, sum_some, sum_zero, sum_apart, sum_same}
use Rattle.eqc_core.proofs.Tables.{has_le}
use Rattle.eqc_guard.specs.Known.{Known, IsKnown}
use Rattle.eqc_guard.specs.Standing.{Standing, Steps}
use Rattle.eqc_guard.specs.Making.{IsEntry, taken_back}
use Rattle.eqc_guard.specs.Locking.{MayHome}

-- what stands among the first n of a list stands there in the list
at_take : {A : Type 0} (n : ℕ) (l : List A) (j : ℕ) (e : A) → get_elem? (take n l) j ≡ some e
    → (j < n) × (get_elem? l j ≡ some e)
at_take zero [] j e is = absurd (some-ne-none e (sym is))
at_take zero (x ∷ l) j e is = absurd (some-ne-none e (sym is))
at_take (suc n) [] j e is = absurd (some-ne-none e (sym is))
at_take (suc n) (x ∷ l) zero e is = (omega arith, is)
at_take (suc n) (x ∷ l) (suc j) e is = let r = at_take n l j e is in
    ((let lt = r.0 in omega arith), r.1)

-- what a removal leaves from the i-th place on stood behind that place
pub stood_behind : {A : Type 0} (t : List A) (i j : ℕ) (d e : A) → i ≤ j
    → get_elem? (swap_remove t i d) j ≡ some e → (k : ℕ) × (suc i ≤ k) × (get_elem? t k ≡ some e)
stood_behind {A} t i j d e le is =
    let r = at_take (length t - 1) (set t i (get_or t (length t - 1) d)) j e is in
    let lt = r.0 in
    ⊎_elim
    (λ (q : (j ≡ i) × (get_or t (length t - 1) d ≡ e)). (
      length t - 1,
      (let same = q.0 in
          omega arith),
      get_at t (length t - 1) d (omega arith) ∙ ap (λ (y : A). some y) q.1,
    ))
    (λ (q : (j ≢ i) × (get_elem? t j ≡ some e)). let n = q.0 in (j, absurd_or_more i j le n, q.1))
    (at_set t i j (get_or t (length t - 1) d) e r.1)
  where
    absurd_or_more : (i j : ℕ) → i ≤ j → j ≢ i → suc i ≤ j
    absurd_or_more i j le n = omega arith

pub elem_get : {A : Type 0} (t : List A) (i : ℕ) (e : A) → slice_get t i ≡ Some e
    → get_elem? t i ≡ some e
elem_get [] i e is = cc
elem_get (x ∷ t) zero e is = let same : x ≡ e = cc in ap (λ y. some y) same
elem_get (x ∷ t) (suc i) e is = elem_get t i e is

-- 1 at this entry, and 0 at each other
entry_here : ℕ × ℕ → ℕ × ℕ → ℕ
entry_here e f = cond (eqb f.0 e.0) (cond (eqb f.1 e.1) 1 0) 0

here_one : (e : ℕ × ℕ) → entry_here e e ≡ 1
unfolding entry_here
here_one e = rw (eq-eqb e.0 e.0 refl, eq-eqb e.1 e.1 refl) refl

here_same : (e f : ℕ × ℕ) → 0 < entry_here e f → f ≡ e
unfolding entry_here
here_same e f lt = go (ℕ_discrete f.0 e.0) (ℕ_discrete f.1 e.1)
  where
    go : Dec (f.0 ≡ e.0) → Dec (f.1 ≡ e.1) → f ≡ e
    go (yes p) (yes q) = λ i. (p i, q i)
    go (yes p) (no n) = absurd (let z = rw (eq-eqb f.0 e.0 p, ne_eqb f.1 e.1 n) at lt in
        omega arith)
    go (no n) d = absurd (let z = rw (ne_eqb f.0 e.0 n) at lt in omega arith)

-- two tables with the same entries have each
pub in_both : (t u : Entries) (i : ℕ) (e : ℕ × ℕ) → SameEntries t u → get_elem? t i ≡ some e
    → (j : ℕ) × (get_elem? u j ≡ some e)
in_both t u i e same at =
    let le = at_le_sum (entry_here e) t i e at in
    let r = sum_some (entry_here e) u (let one = here_one e in let is = same (entry_here e) in
    omega arith) in
    (r.0, r.2 ∙ ap (λ f. some f) (here_same e r.1 r.3))

-- an entry whose slot stands in the table once is what is taken out with the slot
out_sum : (f : ℕ × ℕ → ℕ) (word x : ℕ) (t : Entries) (i : ℕ) → get_elem? t i ≡ some (word, x)
    → table_has x t ≤ 1 → sum_by f (without_slot x t) + f (word, x) ≡ sum_by f t
unfolding table_has
out_sum f word x [] i at once = absurd (some-ne-none (word, x) (sym at))
out_sum f word x (e ∷ es) i at once = go (ℕ_discrete e.1 x) i at (λ j q. out_sum f word x es j q)
  where
    first : cond {A = ℕ} (eqb e.1 x) 1 0 + table_has x es ≤ 1
    first = omega (arith, sum_by-cons (λ (k : ℕ × ℕ). cond {A = ℕ} (eqb k.1 x) 1 0) e es)

    go : Dec (e.1 ≡ x) → (i : ℕ) → get_elem? (e ∷ es) i ≡ some (word, x)
        → ((j : ℕ) → get_elem? es j ≡ some (word, x) → table_has x es ≤ 1
        → sum_by f (without_slot x es) + f (word, x) ≡ sum_by f es)
        → sum_by f (without_slot x (e ∷ es)) + f (word, x) ≡ sum_by f (e ∷ es)
    go (yes is) zero at rest =
        rw (eq-eqb e.1 x is) (omega (
          arith,
          sum_by-cons f e es,
          ap f (some-injective e (word, x) at),
        ))
    go (yes is) (suc j) at rest = absurd (let has = has_le es j (word, x) at in let one =
        ap {B = ℕ} (λ b. cond b 1 0) (eq-eqb e.1 x is) in let le = first in omega arith)
    go (no n) zero at rest = absurd (n (ap (λ k. k.1) (some-injective e (word, x) at)))
    go (no n) (suc j) at rest = rw (ne_eqb e.1 x n) (let r = rest j at (let le = first in
        omega arith) in omega (arith, sum_by-cons f e es, sum_by-cons f e (without_slot x es)))

-- the map and the table in hand lose the same entry
pub same_left : (t u : Entries) (i word x : ℕ) (d : ℕ × ℕ) → SameEntries t u
    → get_elem? t i ≡ some (word, x) → table_has x u ≤ 1
    → SameEntries (swap_remove t i d) (without_slot x u)
same_left t u i word x d same at once f =
    let there = in_both t u i (word, x) same at in
    let lt = at_below t i (word, x) at in
    omega (
      arith,
      sum_by-swap_remove f t i d lt,
      ap f (at_get t i (word, x) d at),
      out_sum f word x u there.0 there.1 once,
      same f,
    )

-- an entry of the map is one of the table in hand
pub entry_in_hand : (s i word x : ℕ) (t : Entries) (v : View) → MayHome v s t
    → slice_get t i ≡ Some (word, x) → IsEntry v word x
entry_in_hand s i word x t v home at = let there = in_both t home.0.entries i (word, x) home.2.2
    (elem_get t i (word, x) at) in (home.0, there.0, home.2.1, there.1)

-- the map and the table in hand are one still after an entry went
pub home_after : (s i word x : ℕ) (t : Entries) (d : ℕ × ℕ) (old new : Standing) → IsKnown old.known
    → MayHome old.known.core s t →
    slice_get t i ≡ Some (word, x) → Steps old (taken_back old.known.core x word) new
    → MayHome new.known.core s (swap_remove t i d)
home_after s i word x t d old new known home at step =
    let hand : hand_of old.known.core.hand ≡ home.0 = ap hand_of home.2.1 in
    let same = same_left t home.0.entries i word x d home.2.2 (elem_get t i (word, x) at)
    (known.once home.0 x home.2.1) in (
      record home.0 { entries = without_slot x home.0.entries },
      home.1,
      (
        ap (λ (v : View). v.position) step.known.core ∙ home.2.0,
        ap (λ (v : View). v.hand) step.known.core
            ∙ ap (λ (h : Hand). Some (record h { entries = without_slot x h.entries })) hand,
        same,
      ),
    )

-- a stripe that was taken is in hand with its map
pub home_locked : (s : ℕ) (t : Entries) (old new : Standing) → IsReady old.known.core
    → Steps old (locked old.known.core s t) new → MayHome new.known.core s t
home_locked s t old new ready step = (
  record { stripe = s; entries = t },
  refl,
  (
    ap (λ (v : View). v.position) step.known.core ∙ ready,
    ap (λ (v : View). v.hand) step.known.core,
    λ f. refl,
  ),
)

-- and stays so where the hand is the same, as after a read or a name that was given back
pub home_stays : (s : ℕ) (t : Entries) (v w : View) → w.hand ≡ v.hand → w.position ≡ v.position
    → MayHome v s t → MayHome w s t
home_stays s t v w hand position home = (
  home.0,
  home.1,
  (
    position ∙ home.2.0,
    hand
        ∙ home.2.1,
    home.2.2,
  ),
)

-- how many entries have a slot below n
entries_below : ℕ → Entries → ℕ
entries_below n t = sum_by (λ e. cond (ltb e.1 n) 1 0) t

one_more : (y n : ℕ) → cond {A = ℕ} (ltb y (suc n)) 1 0 ≡ cond {A = ℕ} (ltb y n) 1 0 + cond {A =
    ℕ} (eqb y n) 1 0
one_more y n = go (ℕ_discrete y n) (dec_le n y)
  where
    go : Dec (y ≡ n) → Dec (n ≤ y) → cond {A = ℕ} (ltb y (suc n)) 1 0 ≡ cond {A = ℕ} (ltb y n) 1 0
        + cond {A = ℕ} (eqb y n) 1 0
    go (yes e) d = rw (eq-eqb y n e, lt-ltb y (suc n) (omega arith), le-ltb y n (omega arith)) refl
    go (no m) (yes le) = rw (ne_eqb y n m, le-ltb y (suc n) (omega arith), le-ltb y n le) refl
    go (no m) (no lt) = rw (ne_eqb y n m, lt-ltb y (suc n) (omega arith), lt-ltb y n (omega arith))
        refl

below_few : (n : ℕ) (t : Entries) → ((x : ℕ) → table_has x t ≤ 1) → entries_below n t ≤ n
unfolding entries_below table_has
below_few zero t once = let e = sum_zero (λ (e : ℕ × ℕ). cond {A = ℕ} (ltb e.1 0) 1 0)
    (λ e. rw (le-ltb e.1 0 (omega arith)) refl) t in omega arith
below_few (suc n) t once =
    let e = sum_apart (λ (e : ℕ × ℕ). cond {A = ℕ} (ltb e.1 (suc n)) 1 0) (λ (e : ℕ × ℕ). cond {A =
    ℕ} (ltb e.1 n) 1 0) (λ (e : ℕ × ℕ). cond {A = ℕ} (eqb e.1 n) 1 0) (λ e. one_more e.1 n) t in
    omega (arith, below_few n t once, once n)

all_one : (t : Entries) → sum_by (λ e. 1) t ≡ length t
all_one [] = refl
all_one (e ∷ es) = omega (arith, sum_by-cons (λ (k : ℕ × ℕ). 1) e es, all_one es)

-- the map of the stripe in hand has no more entries than there are names
pub few_entries : (s : ℕ) (t : Entries) (k : Known) → IsKnown k → MayHome k.core s t
    → length t ≤ k.core.sizes.names
unfolding entries_below
few_entries s t k known home =
    let h = home.0 in
    let few = below_few k.core.sizes.names h.entries (λ x. known.once h x home.2.1) in
    let all =
    sum_same (λ (e : ℕ × ℕ). cond {A = ℕ} (ltb e.1 k.core.sizes.names) 1 0) (λ (e : ℕ × ℕ). 1)
    h.entries (λ i e at. rw (lt-ltb e.1 k.core.sizes.names (known.entries h i e home.2.1 at).1)
    refl) in
    omega (arith, all_one t, all_one h.entries, home.2.2 (λ e. 1))

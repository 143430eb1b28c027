-- Each step on a stripe is allowed by the rule: the lock's word and the place of the stripe's map
-- change as one.
use Rattle.std.proofs.Common.{◌≡◌, ◌≢◌, ℕ, ◌+◌, ◌*◌, ◌-◌, ◌/◌, ◌<◌, List, [], ◌∷◌, set, get_or, eqb}
use Rattle.std.proofs.Common.{Bool, true, false, MatchBool, Option, Some, None, eq-eqb, ne_eqb}
use Rattle.std.proofs.Common.{refl, sym, ap, subst, ◌∙◌, arith}
use Rattle.std.specs.HashMap.{HashMap}
use Rattle.std.proofs.lemmas.List.{map-set, set-get_or}
use mathlib.Core.Option as May
use mathlib.Core.Option.{some, none, some-ne-none}
use lib.ListN.{get_elem?}
use prog.Atomic.{either}
use Rattle.atomic_table.specs.Table.{Me, Act, Allows, keeps, takes, gives, carried_after, put_back}
use Rattle.atomic_table.proofs.Lists.{at_map}
use Rattle.eqc_core.specs.declared.sizes.Sizes.{Sizes}
use Rattle.eqc_core.specs.View.{View, Hand}
use Rattle.eqc_core.specs.Words.{Words, times}
use Rattle.eqc_core.specs.Tables.{Entries, Homes}
use Rattle.eqc_core.specs.Lawful.{Lawful}
use Rattle.eqc_core.specs.Moves.{with_lock}
use Rattle.eqc_core.specs.Locking.{MayLock, locked, MayUnlock, unlocked}
use Rattle.eqc_core.proofs.Locking.{table_is_there, lock_keeps, lock_lost_keeps, unlock_keeps}
use Rattle.eqc_guard.specs.Known.{flat, Known, Knows, IsKnown, Stepped, names_of}
use Rattle.eqc_guard.specs.Standing.{Standing, Steps}
use Rattle.eqc_guard.specs.Telling.{Told, Nothing, Copies, copied}
use Rattle.eqc_guard.specs.Locking.{Locks, Unlocks}
use Rattle.eqc_guard.specs.Rule.{Held, entries_at, homes_of, locks_from}
use Rattle.eqc_guard.proofs.Laid.{set_lock, get_lock}
use Rattle.eqc_guard.proofs.Stepping.{allows, back_map, Pays}
use Rattle.eqc_guard.proofs.Moves.{size}

module _ {S : Type 0} where
  -- a place whose entries are those of a table has a map
  map_of : (o : May.Option (HashMap ℕ ℕ S)) (t : Entries) → entries_at o ≡ some t
      → (m : HashMap ℕ ℕ S) × (o ≡ some m)
  map_of none t e = absurd (some-ne-none t (sym e))
  map_of (some m) t e = (m, refl)

  -- the map of a stripe whose table is at home
  pub map_there : (homes : List (May.Option (HashMap ℕ ℕ S))) (s : ℕ) (t : Entries)
      → get_elem? (homes_of homes) s ≡ some (some t) → (m : HashMap ℕ ℕ S)
      × (get_elem? homes s ≡ some (some m))
  map_there homes s t e =
      let b = back_map entries_at homes s (some t) e in
      let m = map_of b.0 t b.2 in
      (m.0, b.1 ∙ ap some m.1)

  module _ (z : Sizes) (slots id i s : ℕ) (me : Me (HashMap ℕ ℕ S) Known) (on : me.0.core.active
      ≡ true) (is : i ≡ locks_from me.0.core.sizes + 8 * s) where
    -- the lock's word among all words
    lock_here : (w : Words) (hs : Homes) (vs : List View) → Lawful z w hs vs
        → get_elem? vs id ≡ some me.0.core → i ≡ locks_from z + 8 * s
    lock_here w hs vs law at = is ∙ ap (λ (y : Sizes). locks_from y + 8 * s)
        (size z slots id i me on w hs vs law at)

    found : (w : Words) (hs : Homes) (vs : List View) → Lawful z w hs vs
        → get_elem? vs id ≡ some me.0.core → get_or (flat w) i 0 ≡ get_or w.locks s 0
    found w hs vs law at = ap (λ (k : ℕ). get_or (flat w) k 0) (lock_here w hs vs law at)
        ∙ get_lock z w hs vs law.sized s

    laid : (w : Words) (hs : Homes) (vs : List View) → Lawful z w hs vs
        → get_elem? vs id ≡ some me.0.core → (n : ℕ) → set (flat w) i n ≡ flat (with_lock w s n)
    laid w hs vs law at n = ap (λ (k : ℕ). set (flat w) k n) (lock_here w hs vs law at)
        ∙ set_lock z w hs vs law.sized s n

    lock_at : MayLock me.0.core s → Allows (Held {S = S} z) slots id me i (λ n. either (eqb n 0) 1
        n) (λ n after. Locks me i s n after)
    lock_at may =
        allows z slots id i me on (λ steps. steps) (λ n. either (eqb n 0) 1 n)
        (λ n after. Locks me i s n after)
        (λ w homes vs law at knows small. go w homes vs law at (eqb (get_or (flat w) i 0) 0) refl)
      where
        go : (w : Words) (homes : List (May.Option (HashMap ℕ ℕ S))) (vs : List View)
            → Lawful z w (homes_of homes) vs → get_elem? vs id ≡ some me.0.core → (b : Bool)
            → eqb (get_or (flat w) i 0) 0 ≡ b
            → (v : View) × (a : Act (HashMap ℕ ℕ S)) × (w' : Words)
            × Pays z id i me (either b 1 (get_or (flat w) i 0)) w homes vs v a w'
            × ((k : Known) → Stepped me.0 v k
            → Copies me.0 i (get_or (flat w) i 0) (either b 1 (get_or (flat w) i 0)) k
            → Knows w'.nodes k → k.counted ≡ me.0.counted
            → MatchBool b
            ((m : HashMap ℕ ℕ S) × Stepped me.0 (locked me.0.core s m.entries) k
            × (carried_after me.1 a ≡ (s, m) ∷ me.1) × Copies me.0 i (get_or (flat w) i 0) 1 k
            × (k.counted ≡ me.0.counted))
            (Told me i (get_or (flat w) i 0) (get_or (flat w) i 0) me.0.core (
              k,
              carried_after me.1 a,
            ) (Nothing (get_or (flat w) i 0))))
        go w homes vs law at true e =
            let wins : eqb (get_or w.locks s 0) 0 ≡ true =
            ap (λ (n : ℕ). eqb n 0) (sym (found w (homes_of homes) vs law at)) ∙ e in
            let t = table_is_there z w (homes_of homes) vs s law may.1 wins in
            let m = map_there homes s t.0 t.1 in (
              locked me.0.core s m.0.entries,
              takes s m.0,
              with_lock w s 1,
              record {
                valid = m.1;
                live = on;
                laid = laid w (homes_of homes) vs law at 1;
                trees = λ t y named is. is;
                lawful = subst (λ (hs : Homes). Lawful z (with_lock w s 1) hs
                    (set vs id (locked me.0.core s m.0.entries)))
                    (sym (map-set entries_at homes s none))
                    (lock_keeps z w (homes_of homes) vs id me.0.core law at on s m.0.entries may
                    wins (at_map entries_at homes s (some m.0) m.1));
              },
              λ k stepped copies known counted. (m.0, stepped, refl, copies, counted),
            )
        go w homes vs law at false e = (
          me.0.core,
          keeps,
          w,
          record {
            valid = tt;
            live = on;
            laid = set-get_or (flat w) i 0;
            trees = λ t y named is. is;
            lawful = lock_lost_keeps z w (homes_of homes) vs id me.0.core law at;
          },
          λ k stepped copies known counted. (stepped, refl, copies, tt, counted),
        )

    pub lock_allows : MayLock me.0.core s
        → Allows (Held {S = S} z) slots id me i (λ n. either (eqb n 0) 1 n) (λ n after. Locks me i
        ((i - locks_from me.0.core.sizes) / 8) n after)
    lock_allows may =
        let back : s ≡ (i - locks_from me.0.core.sizes) / 8 = omega arith in
        subst (λ (y : ℕ). Allows (Held {S = S} z) slots id me i (λ n. either (eqb n 0) 1 n)
        (λ n after. Locks me i y n after)) back (lock_at may)

    pub unlock_allows : (h : Hand) (m : HashMap ℕ ℕ S) → h.stripe ≡ s → me.1 ≡ (s, m) ∷ []
        → MayUnlock me.0.core h m.entries →
        Allows (Held {S = S} z) slots id me i (λ _. 0) (λ _ after. Unlocks me i 0 after)
    unlock_allows h m stripe carried may = allows z slots id i me on (λ steps. steps) (λ _. 0)
        (λ _ after. Unlocks me i 0 after) (λ w homes vs law at knows small.
        let put : Lawful z (with_lock w s 0) (set (homes_of homes) s (some m.entries))
        (set vs id (unlocked me.0.core)) =
        subst (λ (k : ℕ). Lawful z (with_lock w k 0) (set (homes_of homes) k (some m.entries))
        (set vs id (unlocked me.0.core))) stripe
        (unlock_keeps z w (homes_of homes) vs id me.0.core law at on h m.entries may) in (
          unlocked me.0.core,
          gives,
          with_lock w s 0,
          record {
            valid = tt;
            live = on;
            laid = laid w (homes_of homes) vs law at 0;
            trees = λ t y named is. is;
            lawful = subst (λ (c : List (ℕ × HashMap ℕ ℕ S)). Lawful z (with_lock w s 0)
                (homes_of (put_back homes c)) (set vs id (unlocked me.0.core))) (sym carried)
                (subst (λ (hs : Homes). Lawful z (with_lock w s 0) hs
                (set vs id (unlocked me.0.core))) (sym (map-set entries_at homes s (some m)))
                put);
          },
          λ k stepped copies known counted. (stepped, refl, copies.copy, counted),
        ))

-- a load leaves the copy
pub copy_stays : (k after : Known) (i n : ℕ) → Copies k i n n after → after.copy ≡ k.copy
copy_stays k after i n c = c.copy ∙ go k.copy c.seen
  where
    go : (o : Option (List ℕ)) → ((ws : List ℕ) → o ≡ Some ws → get_or ws i 0 ≡ n)
        → copied o i n ≡ o
    go None seen = refl
    go (Some ws) seen = ap (λ (l : List ℕ). Some l) (ap (λ (m : ℕ). set ws i m) (sym (seen ws refl))
        ∙ set-get_or ws i 0)

-- no step
pub steps_none : (s : Standing) → IsKnown s.known → Steps s s.known.core s
steps_none s known = record {
  forest = refl;
  known = record {
    core = refl;
    copy = λ ws e. (ws, e);
    agrees = λ x two was is. refl;
    known = known;
  };
}

-- steps that leave the view, and then one more
pub steps_on : (old mid new : Standing) (v : View) → Steps old old.known.core mid → Steps mid v new
    → Steps old v new
steps_on old mid new v first then = record {
  forest = then.forest ∙ first.forest;
  known = record {
    core = then.known.core;
    copy = λ ws e. let r = first.known.copy ws e in then.known.copy r.0 r.1;
    agrees = λ x two was is.
        let here : 0 < times x (names_of mid.known.core) =
        subst (λ (u : View). 0 < times x (names_of u)) (sym first.known.core) was in
        then.known.agrees x two here is ∙ first.known.agrees x two was was;
    known = then.known.known;
  };
}

-- what a try for a lock tells, by what it found
pub lock_won : {S : Type 0} (me : Known × List (ℕ × HashMap ℕ ℕ S)) (i s n : ℕ) (after : Known
    × List (ℕ × HashMap ℕ ℕ S)) →
    i ≡ locks_from me.0.core.sizes + 8 * s → n ≡ 0
    → Locks me i ((i - locks_from me.0.core.sizes) / 8) n after
    → (m : HashMap ℕ ℕ S) × Stepped me.0 (locked me.0.core s m.entries) after.0
    × (after.1 ≡ (s, m) ∷ me.1) × Copies me.0 i n 1 after.0 × (after.0.counted ≡ me.0.counted)
lock_won {S} me i s n after is free c =
    let back : (i - locks_from me.0.core.sizes) / 8 ≡ s = omega arith in
    let l : Locks me i s n after = subst (λ (y : ℕ). Locks me i y n after) back c in
    subst
    (λ (b : Bool).
    MatchBool b
    ((m : HashMap ℕ ℕ S) × Stepped me.0 (locked me.0.core s m.entries) after.0
    × (after.1 ≡ (s, m) ∷ me.1) × Copies me.0 i n 1 after.0 × (after.0.counted ≡ me.0.counted))
    (Told me i n n me.0.core after (Nothing n)))
    (eq-eqb n 0 free) l

pub lock_lost : {S : Type 0} (me : Known × List (ℕ × HashMap ℕ ℕ S)) (i s n : ℕ) (after : Known
    × List (ℕ × HashMap ℕ ℕ S)) → n ≢ 0 → Locks me i s n after
    → Told me i n n me.0.core after (Nothing n)
lock_lost {S} me i s n after taken c =
    subst
    (λ (b : Bool).
    MatchBool b
    ((m : HashMap ℕ ℕ S) × Stepped me.0 (locked me.0.core s m.entries) after.0
    × (after.1 ≡ (s, m) ∷ me.1) × Copies me.0 i n 1 after.0 × (after.0.counted ≡ me.0.counted))
    (Told me i n n me.0.core after (Nothing n)))
    (ne_eqb n 0 taken) c

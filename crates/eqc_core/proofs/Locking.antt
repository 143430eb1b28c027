-- A stripe is taken, and put home.
use Rattle.std.proofs.Common.{◌≡◌, ◌≢◌, ℕ, ◌+◌, ◌<◌, List, ◌∷◌, set, get_or, sum_by, eqb, cond}
use Rattle.std.proofs.Common.{true, Option, Some, None, eq-eqb, ne_eqb, refl, sym, ap, subst, ◌∙◌}
use Rattle.std.proofs.Common.{arith, inl, inr, ⊎_elim, length-set, get_or-set_same}
use Rattle.std.proofs.Common.{get_or-set_other}
use Rattle.std.proofs.lemmas.Bool.{eqb-true}
use mathlib.Core.Option as May
use mathlib.Core.Option.{some, none, some-injective, some-ne-none}
use native.Mathlib.Decide.{ℕ_discrete}
use lib.ListN.{get_elem?}
use Rattle.eqc_core.specs.declared.sizes.Sizes.{Sizes}
use Rattle.eqc_core.specs.View.{View, Hand}
use Rattle.eqc_core.specs.Words.{Words, times, children}
use Rattle.eqc_core.specs.Tables.{Entries, Homes, tabled, in_hand, at_home, table_has, table_names}
use Rattle.eqc_core.specs.Tables.{IsTable, has_stripe, home_there}
use Rattle.eqc_core.specs.Owners.{owned, owners, drafts}
use Rattle.eqc_core.specs.Lawful.{Lawful, Fits}
use Rattle.eqc_core.specs.Locking.{MayLock, wins_lock, locked_words, taken_out, locked, SameEntries}
use Rattle.eqc_core.specs.Locking.{MayUnlock, unlocked_words, put_home, unlocked}
use Rattle.eqc_core.proofs.Lists.{at_set, get_at, set_else, set_here, set_again}
use Rattle.eqc_core.proofs.Sums.{sum_set, at_le_sum, sum_some}
use Rattle.eqc_core.proofs.Tables.{owned_is}
use Rattle.eqc_core.proofs.Frames.{step_keeps, drafts_step, table_cases}

pub same_hand : (a b : Hand) → Some a ≡ Some b → a ≡ b
same_hand a b e = cc

pub home_some : (hs : Homes) (s : ℕ) (t : Entries) → get_elem? hs s ≡ some (some t)
    → home_there hs s ≡ 1
home_some hs s t e = rw e refl

pub home_none : (hs : Homes) (s : ℕ) → get_elem? hs s ≡ some none → home_there hs s ≡ 0
home_none hs s e = rw e refl

pub home_same : (hs hs' : Homes) (s : ℕ) → get_elem? hs' s ≡ get_elem? hs s → home_there hs' s
    ≡ home_there hs s
home_same hs hs' s e = rw e refl

stripe_same : (a s : ℕ) → a ≡ s → cond {A = ℕ} (eqb a s) 1 0 ≡ 1
stripe_same a s e = rw (eq-eqb a s e) refl

stripe_other : (a s : ℕ) → a ≢ s → cond {A = ℕ} (eqb a s) 1 0 ≡ 0
stripe_other a s n = rw (ne_eqb a s n) refl

home_cases : (hs : Homes) (s : ℕ) (h : May.Option Entries) → get_elem? hs s ≡ some h
    → home_there hs s ≡ 1 → (t : Entries) × (get_elem? hs s ≡ some (some t))
home_cases hs s none e one = absurd (let k = home_none hs s e in omega arith)
home_cases hs s (some t) e one = (t, e)

has_same : (t t' : Entries) → SameEntries t t' → (x : ℕ) → table_has x t ≡ table_has x t'
unfolding table_has
has_same t t' same x = same (λ e. cond (eqb e.1 x) 1 0)

names_same : (t t' : Entries) → SameEntries t t' → (x : ℕ) → table_names x t ≡ table_names x t'
unfolding table_names
names_same t t' same x = same (λ e. times x (e.1 ∷ children e.0))

-- where a lock is 0, the stripe's table is at home
pub table_is_there : (z : Sizes) (w : Words) (hs : Homes) (vs : List View) (s : ℕ)
    → Lawful z w hs vs → s < 16 → wins_lock w s ≡ true → (t : Entries)
    × (get_elem? hs s ≡ some (some t))
table_is_there z w hs vs s law lt wins =
    let zero_lock = eqb-true (get_or w.locks s 0) 0 wins in
    home_cases hs s (get_or hs s none) (get_at hs s none (omega (arith, law.sized.homes)))
    (omega (arith, law.tables.locks s lt))

pub lock_lost_keeps : (z : Sizes) (w : Words) (hs : Homes) (vs : List View) (id : ℕ) (v : View)
    → Lawful z w hs vs → get_elem? vs id ≡ some v → Lawful z w hs (set vs id v)
lock_lost_keeps z w hs vs id v law at = subst (λ (l : List View). Lawful z w hs l)
    (sym (set_again vs id v at)) law

module _ (z : Sizes) (w : Words) (hs : Homes) (vs : List View) (id : ℕ) (v : View)
    (law : Lawful z w hs vs) (at : get_elem? vs id ≡ some v) (on : v.active ≡ true) where
  -- the table that goes from its home into the hand is one table still
  pub lock_tabled : (s : ℕ) (t : Entries) → MayLock v s → get_elem? hs s ≡ some (some t) → (x : ℕ)
      → tabled (taken_out hs s) (set vs id (locked v s t)) x ≡ tabled hs vs x
  lock_tabled s t may home x =
      let e : in_hand (table_has x) v.hand ≡ 0 = ap (λ (h : Option Hand). in_hand (table_has x) h)
      may.2 in
      omega (
        arith,
        sum_set (λ t. in_hand (table_has x) t.hand) vs id v (locked v s t) at,
        sum_set (at_home (table_has x)) hs s (some t) none home,
      )

  pub lock_keeps : (s : ℕ) (t : Entries) → MayLock v s → wins_lock w s ≡ true
      → get_elem? hs s ≡ some (some t) → Lawful z (locked_words w s) (taken_out hs s)
      (set vs id (locked v s t))
  lock_keeps s t may wins home =
      step_keeps z w hs vs id v law at on v.held v.draft u.hand v.read u.turn u.stops w.counts
      w.nodes (set w.locks s 1) hs' refl refl (length-set w.locks s 1) (length-set hs s none)
      (λ x tab. refl)
      (record {
        counts = λ x two lt. omega (arith, law.counted.counts x two lt, own x, draft x);
        owners_tabled = λ x two has. omega (
          arith,
          law.counted.owners_tabled x two
              (omega (arith, own x)),
          tab x,
        );
      })
      (record {
        once = λ x. omega (arith, law.tables.once x, tab x, draft x);
        named = λ x has. law.tables.named x (omega (arith, tab x));
        drafts_named = λ x has. law.tables.drafts_named x (omega (arith, draft x));
        entries = λ s' t' p i e is. law.tables.entries s' t' (back s' t' p) i e is;
        shaped = λ x has. law.tables.shaped x (omega (arith, tab x));
        unique = λ x y a b e. law.tables.unique x y (omega (arith, tab x)) (omega (arith, tab y)) e;
        stripes = λ s' lt. stripe s' lt (ℕ_discrete s' s);
        locks = λ s' lt. lock s' lt (ℕ_discrete s' s);
      })
      (record { cells = law.right.cells; boxes = law.right.boxes }) f.room
      (λ x has. f.slots x (omega arith)) f.read
      (λ k e. let q = same_hand (record { stripe = s; entries = t }) k e in
      subst (λ (y : Hand). y.stripe < 16) q may.1)
    where
      f : Fits z w vs id v
      f = law.views id v at on

      u : View
      u = locked v s t

      hs' : Homes
      hs' = taken_out hs s

      empty_hand : (g : Entries → ℕ) → in_hand g v.hand ≡ 0
      empty_hand g = ap (λ (h : Option Hand). in_hand g h) may.2

      tab : (x : ℕ) → tabled hs' (set vs id u) x ≡ tabled hs vs x
      tab x = lock_tabled s t may home x

      draft : (x : ℕ) → drafts (set vs id u) x ≡ drafts vs x
      draft x = omega (
        arith,
        drafts_step z w hs vs id v law at on v.held v.draft u.hand v.read
            u.turn u.stops x,
      )

      own : (x : ℕ) → owners (locked_words w s) hs' (set vs id u) x ≡ owners w hs vs x
      own x = omega (
        arith,
        sum_set (owned x) vs id v u at,
        owned_is x v,
        owned_is x u,
        sum_set (at_home (table_names x)) hs s (some t) none home,
        empty_hand (table_names x),
      )

      at_home_before : (s' : ℕ) (t' : Entries) → IsTable hs' vs s' t' → IsTable hs vs s' t'
      at_home_before s' t' (inl e) = ⊎_elim
          (λ (p : (s' ≡ s) × (none ≡ some t')). absurd (some-ne-none t' (sym p.1)))
          (λ (p : (s' ≢ s) × (get_elem? hs s' ≡ some (some t'))). inl p.1)
          (at_set hs s s' none (some t') e)
      at_home_before s' t' (inr p) = inr p

      back : (s' : ℕ) (t' : Entries) → IsTable hs' (set vs id u) s' t' → IsTable hs vs s' t'
      back s' t' is = ⊎_elim
          (λ (p : IsTable hs' vs s' t'). at_home_before s' t' p)
          (λ (p : (h : Hand) × (u.hand ≡ Some h) × (h.stripe ≡ s') × (h.entries ≡ t')).
          let k = same_hand (record { stripe = s; entries = t }) p.0 p.1 in
          let a : s ≡ s' = ap (λ (h : Hand). h.stripe) k ∙ p.2 in
          let b : t ≡ t' = ap (λ (h : Hand). h.entries) k ∙ p.3 in
          inl (ap (λ (i : ℕ). get_elem? hs i) (sym a)
          ∙ (home ∙ ap (λ (y : Entries). some (some y)) b)))
          (table_cases z w hs vs id v law at on v.held v.draft u.hand v.read u.turn u.stops hs' s'
          t' is)

      stripe_sum : (s' : ℕ) → sum_by (λ v. has_stripe s' v.hand) (set vs id u)
          ≡ sum_by (λ v. has_stripe s' v.hand) vs + cond (eqb s s') 1 0
      stripe_sum s' = let e : has_stripe s' v.hand ≡ 0 = ap (λ (h : Option Hand). has_stripe s' h)
          may.2 in omega (arith, sum_set (λ t. has_stripe s' t.hand) vs id v u at)

      home_out : home_there hs' s ≡ 0
      home_out = home_none hs' s (set_here hs s none (let h = may.1 in
          omega (arith, law.sized.homes)))

      stripe : (s' : ℕ) → s' < 16 → Dec (s' ≡ s) → home_there hs' s'
          + sum_by (λ v. has_stripe s' v.hand) (set vs id u) ≡ 1
      stripe s' lt (yes e) =
          let a : home_there hs' s' ≡ 0 = ap (λ (i : ℕ). home_there hs' i) e ∙ home_out in
          let b : home_there hs s' ≡ 1 = ap (λ (i : ℕ). home_there hs i) e ∙ home_some hs s t home
          in
          omega (arith, stripe_sum s', stripe_same s s' (sym e), law.tables.stripes s' lt)
      stripe s' lt (no n) =
          let a : home_there hs' s' ≡ home_there hs s' =
          home_same hs hs' s' (set_else hs s s' none n) in
          omega (arith, stripe_sum s', stripe_other s s' (λ e. n (sym e)), law.tables.stripes s' lt)

      lock : (s' : ℕ) → s' < 16 → Dec (s' ≡ s) → get_or (set w.locks s 1) s' 0 + home_there hs' s'
          ≡ 1
      lock s' lt (yes e) =
          let a : home_there hs' s' ≡ 0 = ap (λ (i : ℕ). home_there hs' i) e ∙ home_out in
          let b : get_or (set w.locks s 1) s' 0 ≡ 1 = ap (λ (i : ℕ). get_or (set w.locks s 1) i 0) e
          ∙ get_or-set_same w.locks s 1 0 (let h = may.1 in omega (arith, law.sized.locks)) in
          omega arith
      lock s' lt (no n) =
          let a : home_there hs' s' ≡ home_there hs s' =
          home_same hs hs' s' (set_else hs s s' none n) in
          omega (arith, get_or-set_other w.locks s s' 1 0 n, law.tables.locks s' lt)

  -- an entry of a table is one of each table with the same entries
  same_entry : (t t' : Entries) → SameEntries t t' → (i : ℕ) (e : ℕ × ℕ) → get_elem? t i ≡ some e
      → (j : ℕ) × (get_elem? t' j ≡ some e)
  same_entry t t' same i e is =
      let g : ℕ × ℕ → ℕ = λ (k : ℕ × ℕ). cond (eqb k.0 e.0) (cond (eqb k.1 e.1) 1 0) 0 in
      let one : g e ≡ 1 = rw (eq-eqb e.0 e.0 refl, eq-eqb e.1 e.1 refl) refl in
      let s = sum_some g t' (omega (arith, at_le_sum g t i e is, same g)) in
      (s.0, s.2 ∙ ap some (pair s.1 s.3 (ℕ_discrete s.1.0 e.0) (ℕ_discrete s.1.1 e.1)))
    where
      pair : (k : ℕ × ℕ) → 0 < cond (eqb k.0 e.0) (cond {A = ℕ} (eqb k.1 e.1) 1 0) 0
          → Dec (k.0 ≡ e.0) → Dec (k.1 ≡ e.1) → k ≡ e
      pair k h (yes a) (yes b) = λ i. (a i, b i)
      pair k h (no n) d = absurd (let o : 0 < 0 = rw (ne_eqb k.0 e.0 n) at h in omega arith)
      pair k h (yes a) (no n) = absurd (let o : 0 < 0 = rw (eq-eqb k.0 e.0 a, ne_eqb k.1 e.1 n) at h
          in omega arith)

  -- the home of a stripe in hand is out
  home_out : (h : Hand) → v.hand ≡ Some h → get_elem? hs h.stripe ≡ some none
  home_out h is = go (get_or hs h.stripe none) (get_at hs h.stripe none
      (omega (arith, law.sized.homes, there)))
    where
      there : h.stripe < 16
      there = (law.views id v at on).hand h is

      has : has_stripe h.stripe v.hand ≡ 1
      has = ap (λ (k : Option Hand). has_stripe h.stripe k) is ∙ stripe_same h.stripe h.stripe refl

      go : (k : May.Option Entries) → get_elem? hs h.stripe ≡ some k → get_elem? hs h.stripe
          ≡ some none
      go none e = e
      go (some t) e = absurd (omega (
        arith,
        home_some hs h.stripe t e,
        law.tables.stripes h.stripe
            there,
        has,
        at_le_sum (λ v. has_stripe h.stripe v.hand) vs id v at,
      ))

  pub unlock_tabled : (h : Hand) (t : Entries) → MayUnlock v h t → (x : ℕ)
      → tabled (put_home hs h t) (set vs id (unlocked v)) x ≡ tabled hs vs x
  unlock_tabled h t may x =
      let e : in_hand (table_has x) v.hand ≡ table_has x h.entries =
      ap (λ (h : Option Hand). in_hand (table_has x) h) may.1 in
      omega (
        arith,
        sum_set (λ t. in_hand (table_has x) t.hand) vs id v (unlocked v) at,
        sum_set (at_home (table_has x)) hs h.stripe none (some t) (home_out h may.1),
        has_same t h.entries may.2 x,
      )

  pub unlock_keeps : (h : Hand) (t : Entries) → MayUnlock v h t
      → Lawful z (unlocked_words w h) (put_home hs h t) (set vs id (unlocked v))
  unlock_keeps h t may =
      step_keeps z w hs vs id v law at on v.held v.draft None v.read v.turn v.stops w.counts w.nodes
      (set w.locks s 0) hs' refl refl (length-set w.locks s 0) (length-set hs s (some t))
      (λ x tab. refl)
      (record {
        counts = λ x two lt. omega (arith, law.counted.counts x two lt, own x, draft x);
        owners_tabled = λ x two has. omega (
          arith,
          law.counted.owners_tabled x two
              (omega (arith, own x)),
          tab x,
        );
      })
      (record {
        once = λ x. omega (arith, law.tables.once x, tab x, draft x);
        named = λ x has. law.tables.named x (omega (arith, tab x));
        drafts_named = λ x has. law.tables.drafts_named x (omega (arith, draft x));
        entries = λ s' t' p i e is. let b = back s' t' p i e is in
            law.tables.entries s' b.0 b.1 b.2 e b.3;
        shaped = λ x has. law.tables.shaped x (omega (arith, tab x));
        unique = λ x y a b e. law.tables.unique x y (omega (arith, tab x)) (omega (arith, tab y)) e;
        stripes = λ s' lt. stripe s' lt (ℕ_discrete s' s);
        locks = λ s' lt. lock s' lt (ℕ_discrete s' s);
      })
      (record { cells = law.right.cells; boxes = law.right.boxes }) f.room
      (λ x has. f.slots x (omega arith)) f.read (λ k e. absurd (cc))
    where
      f : Fits z w vs id v
      f = law.views id v at on

      s : ℕ
      s = h.stripe

      there : h.stripe < 16
      there = f.hand h may.1

      u : View
      u = unlocked v

      hs' : Homes
      hs' = put_home hs h t

      in_hand_is : (g : Entries → ℕ) → in_hand g v.hand ≡ g h.entries
      in_hand_is g = ap (λ (h : Option Hand). in_hand g h) may.1

      has_s : has_stripe s v.hand ≡ 1
      has_s = ap (λ (h : Option Hand). has_stripe s h) may.1 ∙ stripe_same h.stripe s refl

      out : home_there hs s ≡ 0
      out = omega (
        arith,
        law.tables.stripes s there,
        has_s,
        at_le_sum (λ v. has_stripe s v.hand) vs
            id v at,
      )

      home : get_elem? hs s ≡ some none
      home = home_out h may.1

      tab : (x : ℕ) → tabled hs' (set vs id u) x ≡ tabled hs vs x
      tab x = unlock_tabled h t may x

      draft : (x : ℕ) → drafts (set vs id u) x ≡ drafts vs x
      draft x = omega (
        arith,
        drafts_step z w hs vs id v law at on v.held v.draft None v.read v.turn
            v.stops x,
      )

      own : (x : ℕ) → owners (unlocked_words w h) hs' (set vs id u) x ≡ owners w hs vs x
      own x =
          omega (
            arith,
            sum_set (owned x) vs id v u at,
            owned_is x v,
            owned_is x u,
            sum_set (at_home (table_names x)) hs s none (some t) home,
            in_hand_is (table_names x),
            names_same t h.entries may.2 x,
          )

      home_back : (s' : ℕ) (t' : Entries) → IsTable hs' vs s' t' → (i : ℕ) (e : ℕ × ℕ)
          → get_elem? t' i ≡ some e → (t0 : Entries) × IsTable hs vs s' t0 × (j : ℕ)
          × (get_elem? t0 j ≡ some e)
      home_back s' t' (inr p) i e is = (t', inr p, i, is)
      home_back s' t' (inl q) i e is = ⊎_elim
          (λ (p : (s' ≡ s) × (some t ≡ some t')).
          let k : t' ≡ t = sym (some-injective t t' p.1) in
          let g = same_entry t h.entries may.2 i e (ap (λ (l : Entries). get_elem? l i) (sym k)
          ∙ is) in
          (h.entries, inr (id, v, h, at, may.1, sym p.0, refl), g.0, g.1))
          (λ (p : (s' ≢ s) × (get_elem? hs s' ≡ some (some t'))). (t', inl p.1, i, is))
          (at_set hs s s' (some t) (some t') q)

      back : (s' : ℕ) (t' : Entries) → IsTable hs' (set vs id u) s' t' → (i : ℕ) (e : ℕ × ℕ)
          → get_elem? t' i ≡ some e → (t0 : Entries) × IsTable hs vs s' t0 × (j : ℕ)
          × (get_elem? t0 j ≡ some e)
      back s' t' is i e ate = ⊎_elim
          (λ (p : IsTable hs' vs s' t'). home_back s' t' p i e ate)
          (λ (p : (h : Hand) × (None ≡ Some h) × (h.stripe ≡ s') × (h.entries ≡ t')). absurd
          (let q = p.1 in cc))
          (table_cases z w hs vs id v law at on v.held v.draft None v.read v.turn v.stops hs' s' t'
          is)

      stripe_sum : (s' : ℕ) → sum_by (λ v. has_stripe s' v.hand) (set vs id u) + cond (eqb s s') 1 0
          ≡ sum_by (λ v. has_stripe s' v.hand) vs
      stripe_sum s' = let e : has_stripe s' v.hand ≡ cond (eqb s s') 1 0 =
          ap (λ (h : Option Hand). has_stripe s' h) may.1 in
          omega (arith, sum_set (λ t. has_stripe s' t.hand) vs id v u at)

      home_in : home_there hs' s ≡ 1
      home_in = home_some hs' s t (set_here hs s (some t) (omega (arith, law.sized.homes, there)))

      stripe : (s' : ℕ) → s' < 16 → Dec (s' ≡ s) → home_there hs' s'
          + sum_by (λ v. has_stripe s' v.hand) (set vs id u) ≡ 1
      stripe s' lt (yes e) =
          let a : home_there hs' s' ≡ 1 = ap (λ (i : ℕ). home_there hs' i) e ∙ home_in in
          let b : home_there hs s' ≡ 0 = ap (λ (i : ℕ). home_there hs i) e ∙ out in
          omega (arith, stripe_sum s', stripe_same s s' (sym e), law.tables.stripes s' lt)
      stripe s' lt (no n) =
          let a : home_there hs' s' ≡ home_there hs s' =
          home_same hs hs' s' (set_else hs s s' (some t) n) in
          omega (arith, stripe_sum s', stripe_other s s' (λ e. n (sym e)), law.tables.stripes s' lt)

      lock : (s' : ℕ) → s' < 16 → Dec (s' ≡ s) → get_or (set w.locks s 0) s' 0 + home_there hs' s'
          ≡ 1
      lock s' lt (yes e) =
          let a : home_there hs' s' ≡ 1 = ap (λ (i : ℕ). home_there hs' i) e ∙ home_in in
          let b : get_or (set w.locks s 0) s' 0 ≡ 0 = ap (λ (i : ℕ). get_or (set w.locks s 0) i 0) e
          ∙ get_or-set_same w.locks s 0 0 (omega (arith, law.sized.locks, there)) in
          omega arith
      lock s' lt (no n) =
          let a : home_there hs' s' ≡ home_there hs s' =
          home_same hs hs' s' (set_else hs s s' (some t) n) in
          omega (arith, get_or-set_other w.locks s s' 0 0 n, law.tables.locks s' lt)

-- A node that only its table owns is taken back.
use Rattle.std.proofs.Common.{◌≡◌, ◌≢◌, ℕ, zero, suc, ◌+◌, ◌*◌, ◌^◌, ◌<◌, ◌≤◌, List, [], ◌∷◌, ◌++◌}
use Rattle.std.proofs.Common.{length, set, get_or, sum_by, eqb, cond, true, Some, eq-eqb, ne_eqb}
use Rattle.std.proofs.Common.{refl, sym, ap, subst, ◌∙◌, arith, inr, ⊎_elim, length-set}
use Rattle.std.proofs.Common.{get_or-set_same, get_or-set_other}
use Rattle.std.proofs.lemmas.List.Sums.{sum_by-cons}
use mathlib.Core.Option.{some, some-ne-none}
use native.Mathlib.Decide.{ℕ_discrete, dec_le}
use lib.ListN.{get_elem?}
use Rattle.eqc_core.specs.declared.sizes.Sizes.{Sizes}
use Rattle.eqc_core.specs.View.{View, Hand}
use Rattle.eqc_core.specs.Words.{Words, times, children, slots_of}
use Rattle.eqc_core.specs.Tables.{Entries, Homes, tabled, in_hand, table_has, table_names, IsTable}
use Rattle.eqc_core.specs.Tables.{has_stripe}
use Rattle.eqc_core.specs.Owners.{owned, owners, drafts}
use Rattle.eqc_core.specs.Lawful.{Lawful, Fits}
use Rattle.eqc_core.specs.Facts.{IsDead}
use Rattle.eqc_core.specs.Making.{MayReclaim, without_slot, reclaimed_words, reclaimed}
use Rattle.eqc_core.proofs.Sums.{sum_set}
use Rattle.eqc_core.proofs.Names.{times-cons, times-append, times-slots_of, slots_of_slots}
use Rattle.eqc_core.proofs.Tables.{owned_is, table_tabled}
use Rattle.eqc_core.proofs.Confirmed.{confirmed_counted}
use Rattle.eqc_core.proofs.Frames.{forgets}
use Rattle.eqc_core.proofs.Frames.{step_keeps, drafts_step, table_cases}
use Rattle.eqc_core.proofs.Locking.{same_hand}

-- the entry of the slot that is taken out: all sums fall by it
abbrev Taken : ℕ → Entries → Type 0
Taken x t = (e : ℕ × ℕ) × (i : ℕ) × (get_elem? t i ≡ some e) × (e.1 ≡ x)
    × ((f : ℕ × ℕ → ℕ) → sum_by f (without_slot x t) + f e ≡ sum_by f t)

taken : (x : ℕ) (t : Entries) → 0 < table_has x t → Taken x t
unfolding table_has
taken x [] has = absurd (omega arith)
taken x (e ∷ es) has = go (ℕ_discrete e.1 x) (λ k. taken x es k)
  where
    more : e.1 ≢ x → Taken x es → Taken x (e ∷ es)
    more n r = (
      r.0,
      suc r.1,
      r.2,
      r.3,
      λ f. rw (ne_eqb e.1 x n) (omega (
        arith,
        sum_by-cons f e es,
        sum_by-cons f e (without_slot x es),
        r.4 f,
      )),
    )

    go : Dec (e.1 ≡ x) → (0 < table_has x es → Taken x es) → Taken x (e ∷ es)
    go (yes is) rest = (
      e,
      0,
      refl,
      is,
      λ f. rw (eq-eqb e.1 x is)
          (omega (arith, sum_by-cons f e es)),
    )
    go (no n) rest =
        let none = ap {B = ℕ} (λ b. cond b 1 0) (ne_eqb e.1 x n) in
        more n (rest (omega (
          arith,
          sum_by-cons (λ (k : ℕ × ℕ). cond {A = ℕ} (eqb k.1 x) 1 0) e
              es,
        )))

-- what is left was there
left : (x : ℕ) (t : Entries) (i : ℕ) (e : ℕ × ℕ) → get_elem? (without_slot x t) i ≡ some e → (j : ℕ)
    × (get_elem? t j ≡ some e)
left x [] i e is = absurd (some-ne-none e (sym is))
left x (k ∷ ks) i e is = go (ℕ_discrete k.1 x) i is (λ j q. left x ks j e q)
  where
    go : Dec (k.1 ≡ x) → (i : ℕ) → get_elem? (without_slot x (k ∷ ks)) i ≡ some e →
        ((j : ℕ) → get_elem? (without_slot x ks) j ≡ some e → (j : ℕ) × (get_elem? ks j ≡ some e))
        → (j : ℕ) × (get_elem? (k ∷ ks) j ≡ some e)
    go (yes h) i is rest = (suc i, rw (eq-eqb k.1 x h) at is)
    go (no n) zero is rest = (0, rw (ne_eqb k.1 x n) at is)
    go (no n) (suc i) is rest = let r = rest i (rw (ne_eqb k.1 x n) at is) in (suc r.0, r.1)

module _ (z : Sizes) (w : Words) (hs : Homes) (vs : List View) (id : ℕ) (v : View)
    (law : Lawful z w hs vs) (at : get_elem? vs id ≡ some v)
    (on : v.active ≡ true) (x : ℕ) (h : Hand) (may : MayReclaim w v h x) where
  f : Fits z w vs id v
  f = law.views id v at on

  abbrev word : ℕ
  word = get_or w.nodes x 0

  abbrev after : Hand
  after = record h { entries = without_slot x h.entries }

  abbrev u : View
  u = reclaimed v h x (get_or w.nodes x 0)

  mine : IsTable hs vs h.stripe h.entries
  mine = inr (id, v, h, at, may.1, refl, refl)

  one_out : (g : ℕ × ℕ → ℕ) → sum_by g (without_slot x h.entries) + g (word, x) ≡ sum_by g h.entries
  one_out g =
      let t = taken x h.entries may.2 in
      let n = (law.tables.entries h.stripe h.entries mine t.1 t.0 t.2).0 in
      let same : t.0.0 ≡ word = sym n ∙ ap (λ (k : ℕ). get_or w.nodes k 0) t.3 in
      let e : g t.0 ≡ g (word, x) = ap g (λ i. (same i, t.3 i)) in
      omega (arith, t.4 g)

  has_out : (y : ℕ) → table_has y (without_slot x h.entries) + cond (eqb x y) 1 0
      ≡ table_has y h.entries
  unfolding table_has
  has_out y = one_out (λ e. cond (eqb e.1 y) 1 0)

  names_out : (y : ℕ) → table_names y (without_slot x h.entries) + times y (x ∷ children word)
      ≡ table_names y h.entries
  unfolding table_names
  names_out y = one_out (λ e. times y (e.1 ∷ children e.0))

  here_one : cond {A = ℕ} (eqb x x) 1 0 ≡ 1
  here_one = rw (eq-eqb x x refl) refl

  here_zero : (y : ℕ) → y ≢ x → cond {A = ℕ} (eqb x y) 1 0 ≡ 0
  here_zero y n = rw (ne_eqb x y (λ e. n (sym e))) refl

  tab_x : tabled hs vs x ≡ 1
  tab_x = let k = may.2 in omega (
    arith,
    table_tabled hs vs h.stripe h.entries x mine,
    law.tables.once x,
  )

  draft_x : drafts vs x ≡ 0
  draft_x = omega (arith, tab_x, law.tables.once x)

  range : (2 ≤ x) × (x < z.names)
  range = law.tables.named x (omega (arith, tab_x))

  own_x : owners w hs vs x ≡ 1
  own_x = let k = may.3 in omega (arith, law.counted.counts x range.0 range.1, draft_x)

  tab : (y : ℕ) → tabled hs (set vs id u) y + cond (eqb x y) 1 0 ≡ tabled hs vs y
  tab y =
      let e : in_hand (table_has y) v.hand ≡ table_has y h.entries =
      ap (λ k. in_hand (table_has y) k) may.1 in
      omega (arith, sum_set (λ t. in_hand (table_has y) t.hand) vs id v u at, has_out y)

  change : (y : ℕ) → drafts (set vs id u) y ≡ drafts vs y
  change y = omega (
    arith,
    drafts_step z w hs vs id v law at on u.held v.draft u.hand u.read v.turn
        v.stops y,
  )

  own : (y : ℕ) → 2 ≤ y → owners (reclaimed_words w x) hs (set vs id u) y + cond (eqb x y) 1 0
      ≡ owners w hs vs y
  own y two =
      let e : in_hand (table_names y) v.hand ≡ table_names y h.entries =
      ap (λ k. in_hand (table_names y) k) may.1 in
      omega (
        arith,
        sum_set (owned y) vs id v u at,
        owned_is y v,
        owned_is y u,
        names_out y,
        times-append y v.held (slots_of (children word)),
        times-slots_of y (children word) two,
        times-cons y x (children word),
      )

  hand_entry : (i : ℕ) (e : ℕ × ℕ) → get_elem? (without_slot x h.entries) i ≡ some e → (j : ℕ)
      × (get_elem? h.entries j ≡ some e)
  hand_entry i e is = left x h.entries i e is

  back : (s : ℕ) (t : Entries) → IsTable hs (set vs id u) s t → (i : ℕ) (e : ℕ × ℕ)
      → get_elem? t i ≡ some e → (t0 : Entries) × IsTable hs vs s t0 × (j : ℕ)
      × (get_elem? t0 j ≡ some e)
  back s t is i e ate = ⊎_elim
      (λ (p : IsTable hs vs s t). (t, p, i, ate))
      (λ (p : (k : Hand) × (Some after ≡ Some k) × (k.stripe ≡ s) × (k.entries ≡ t)).
      let k = same_hand after p.0 p.1 in
      let g = hand_entry i e (ap (λ (l : Entries). get_elem? l i) (ap (λ (y : Hand). y.entries) k
      ∙ p.3) ∙ ate) in
      (h.entries, inr (id, v, h, at, may.1, ap (λ (y : Hand). y.stripe) k ∙ p.2, refl), g.0, g.1))
      (table_cases z w hs vs id v law at on u.held v.draft u.hand u.read v.turn v.stops hs s t is)

  pub reclaim_keeps : length (reclaimed v h x (get_or w.nodes x 0)).held ≤ 2 ^ 40
      → Lawful z (reclaimed_words w x) hs (set vs id (reclaimed v h x (get_or w.nodes x 0)))
  reclaim_keeps room =
      step_keeps z w hs vs id v law at on u.held v.draft u.hand u.read v.turn v.stops
      (set w.counts x 0) w.nodes w.locks hs (length-set w.counts x 0) refl refl refl
      (λ y t. refl)
      (record {
        counts = λ y two lt. counted y two lt (ℕ_discrete y x);
        owners_tabled = λ y two has. still y two has (ℕ_discrete y x);
      })
      (record {
        once = λ y. omega (arith, law.tables.once y, tab y, change y);
        named = λ y has. law.tables.named y (omega (arith, tab y));
        drafts_named = λ y has. law.tables.drafts_named y (omega (arith, change y));
        entries = λ s t p i e is. let b = back s t p i e is in law.tables.entries s b.0 b.1 b.2 e
            b.3;
        shaped = λ y has. law.tables.shaped y (omega (arith, tab y));
        unique = λ y y' a b e. law.tables.unique y y' (omega (arith, tab y)) (omega (arith, tab y'))
            e;
        stripes = λ s lt. let e = ap (λ k. has_stripe s k) may.1 in
            omega (arith, law.tables.stripes s lt, sum_set (λ t. has_stripe s t.hand) vs id v u at);
        locks = law.tables.locks;
      })
      (record { cells = law.right.cells; boxes = law.right.boxes }) room
      (λ y has. slot y has (dec_le 1 (times y v.held)))
      (λ r is. let g = forgets u.held v.read r is in record {
        held_still = g.1;
        word_is =
            (f.read r g.0).word_is;
      })
      (λ k e. subst (λ (y : Hand). y.stripe < 16) (same_hand after k e) (f.hand h may.1))
    where
      counted : (y : ℕ) → 2 ≤ y → y < z.names → Dec (y ≡ x) → get_or (set w.counts x 0) y 0
          ≡ 2 * drafts (set vs id u) y + owners (reclaimed_words w x) hs (set vs id u) y
      counted y two lt (yes e) = subst (λ (k : ℕ). get_or (set w.counts x 0) k 0
          ≡ 2 * drafts (set vs id u) k + owners (reclaimed_words w x) hs (set vs id u) k) (sym e)
          (let small = range.1 in omega (
            arith,
            get_or-set_same w.counts x 0 0
                (omega (arith, law.sized.counts)),
            own x range.0,
            own_x,
            change x,
            draft_x,
            here_one,
          ))
      counted y two lt (no n) = omega (
        arith,
        get_or-set_other w.counts x y 0 0 n,
        own y two,
        here_zero y n,
        change y,
        law.counted.counts y two lt,
      )

      still : (y : ℕ) → 2 ≤ y → 0 < owners (reclaimed_words w x) hs (set vs id u) y → Dec (y ≡ x)
          → 0 < tabled hs (set vs id u) y
      still y two has (yes e) =
          absurd (let k = subst (λ (i : ℕ). 0 < owners (reclaimed_words w x) hs (set vs id u) i) e
          has in omega (arith, own x range.0, own_x, here_one))
      still y two has (no n) =
          omega (
            arith,
            law.counted.owners_tabled y two (omega (arith, own y two)),
            tab y,
            here_zero y n,
          )

      slot : (y : ℕ) → 0 < times y (v.held ++ slots_of (children word)) → Dec (1 ≤ times y v.held)
          → 2 ≤ y
      slot y has (yes k) = f.slots y (omega arith)
      slot y has (no k) = slots_of_slots y (children word)
          (omega (arith, times-append y v.held (slots_of (children word))))

  pub reclaimed_is_free : IsDead w hs vs x
      × (tabled hs (set vs id (reclaimed v h x (get_or w.nodes x 0))) x ≡ 0)
      × ((y : ℕ) → y ≢ x → tabled hs (set vs id (reclaimed v h x (get_or w.nodes x 0))) y
      ≡ tabled hs vs y)
  reclaimed_is_free = (
    record {
      owners = own_x;
      drafts = draft_x;
      tabled = tab_x;
      unconfirmed = λ j k o there alive is. let c = confirmed_counted z w hs vs law j k x o there
          alive is in let one = may.3 in omega arith;
    },
    omega (arith, tab x, tab_x, here_one),
    (λ y n. omega (arith, tab y, here_zero y n)),
  )

-- A free slot is claimed, and given up again; a node is read.
use Rattle.std.proofs.Common.{◌≡◌, ◌≢◌, ℕ, ◌+◌, ◌*◌, ◌<◌, ◌≤◌, List, [], set, get_or, true, Option}
use Rattle.std.proofs.Common.{Some, None, eq-eqb, ne_eqb, refl, sym, ap, subst, ◌∙◌, arith, inr}
use Rattle.std.proofs.Common.{⊎_elim, length-set, get_or-set_same, get_or-set_other}
use Rattle.std.proofs.lemmas.Bool.{eqb-true}
use mathlib.Core.Option.{some}
use native.Mathlib.Decide.{ℕ_discrete, dec_le}
use lib.ListN.{get_elem?}
use Rattle.eqc_core.specs.declared.sizes.Sizes.{Sizes}
use Rattle.eqc_core.specs.View.{View, Hand, Read}
use Rattle.eqc_core.specs.Words.{Words, children}
use Rattle.eqc_core.specs.Tables.{Entries, Homes, tabled, in_hand, table_has, IsTable, has_stripe}
use Rattle.eqc_core.specs.Owners.{owned, owners, drafts, is_draft}
use Rattle.eqc_core.specs.Lawful.{Lawful, IsRead, Fits}
use Rattle.eqc_core.specs.Facts.{IsFree}
use Rattle.eqc_core.specs.Moves.{with_count}
use Rattle.eqc_core.specs.Making.{MayClaim, wins_claim, claimed_words, claimed, found_taken}
use Rattle.eqc_core.specs.Making.{MayUnclaim, unclaimed_words, unclaimed, MayRead, read_node}
use Rattle.eqc_core.proofs.Sums.{sum_set, at_le_sum}
use Rattle.eqc_core.proofs.Names.{times-same}
use Rattle.eqc_core.proofs.Tables.{owned_is, tabled_where, entry_of, names_le, table_owned}
use Rattle.eqc_core.proofs.Confirmed.{confirmed_counted}
use Rattle.eqc_core.proofs.Frames.{step_keeps, drafts_step, table_cases}

-- a tabled slot has an owner: its table
pub tabled_owners : (w : Words) (hs : Homes) (vs : List View) (x : ℕ) → 0 < tabled hs vs x
    → 0 < owners w hs vs x
tabled_owners w hs vs x tab =
    let p = tabled_where hs vs x tab in
    let e = entry_of x p.1 p.3 in
    omega (
      arith,
      names_le x p.1 e.0 e.1 e.2,
      times-same x e.1.1 (children e.1.0) e.3,
      table_owned w hs vs p.0 p.1 x p.2,
    )

pub draft_same : (x d : ℕ) → d ≡ x → is_draft x (Some d) ≡ 1
draft_same x d e = rw (eq-eqb d x e) refl

pub draft_other : (x d : ℕ) → d ≢ x → is_draft x (Some d) ≡ 0
draft_other x d n = rw (ne_eqb d x n) refl

pub claimed_is_free : (z : Sizes) (w : Words) (hs : Homes) (vs : List View) (x : ℕ)
    → Lawful z w hs vs → 2 ≤ x → x < z.names → wins_claim w x ≡ true → IsFree w hs vs x
claimed_is_free z w hs vs x law two lt wins =
    let zero_count = eqb-true (get_or w.counts x 0) 0 wins in
    let count = law.counted.counts x two lt in
    let own : owners w hs vs x ≡ 0 = omega arith in
    record {
      owners = own;
      drafts = omega arith;
      tabled = not_tabled own (dec_le 1 (tabled hs vs x));
      unconfirmed = λ id k v at on is. let c = confirmed_counted z w hs vs law id k x v at on is in
          omega arith;
    }
  where
    not_tabled : owners w hs vs x ≡ 0 → Dec (1 ≤ tabled hs vs x) → tabled hs vs x ≡ 0
    not_tabled own (yes t) = absurd (omega (arith, tabled_owners w hs vs x t))
    not_tabled own (no n) = omega arith

module _ (z : Sizes) (w : Words) (hs : Homes) (vs : List View) (id : ℕ) (v : View)
    (law : Lawful z w hs vs) (at : get_elem? vs id ≡ some v) (on : v.active ≡ true) where
  f : Fits z w vs id v
  f = law.views id v at on

  -- the frame of the steps that change a draft and its count, and no table
  draft_keeps : (x n : ℕ) (draft : Option ℕ) (turn : List ℕ) → n + 2 * is_draft x v.draft
      ≡ get_or w.counts x 0 + 2 * is_draft x draft →
      ((y : ℕ) → y ≢ x → is_draft y draft ≡ is_draft y v.draft) →
      tabled hs vs x + drafts (set vs id (record v { draft = draft; turn = turn })) x ≤ 1 → 2 ≤ x
      → x < z.names
      → Lawful z (with_count w x n) hs (set vs id (record v { draft = draft; turn = turn }))
  draft_keeps x n draft turn count others once_here two small =
      step_keeps z w hs vs id v law at on v.held draft v.hand v.read turn v.stops (set w.counts x n)
      w.nodes w.locks hs (length-set w.counts x n) refl refl refl (λ y tab. refl)
      (record {
        counts = λ y two' lt. counted y lt two' (ℕ_discrete y x);
        owners_tabled = λ y two' has. omega (
          arith,
          law.counted.owners_tabled y two'
              (omega (arith, own y)),
          tab y,
        );
      })
      (record {
        once = λ y. once y (ℕ_discrete y x);
        named = λ y has. law.tables.named y (omega (arith, tab y));
        drafts_named = λ y has. named y has (ℕ_discrete y x);
        entries = λ s t p i e is. law.tables.entries s t (back s t p) i e is;
        shaped = λ y has. law.tables.shaped y (omega (arith, tab y));
        unique = λ y y' a b e. law.tables.unique y y' (omega (arith, tab y)) (omega (arith, tab y'))
            e;
        stripes = λ s lt. omega (
          arith,
          law.tables.stripes s lt,
          sum_set (λ t. has_stripe s t.hand)
              vs id v u at,
        );
        locks = law.tables.locks;
      })
      (record { cells = law.right.cells; boxes = law.right.boxes }) f.room
      (λ y has. f.slots y (omega arith)) f.read f.hand
    where
      u : View
      u = record v { draft = draft; turn = turn }

      tab : (y : ℕ) → tabled hs (set vs id u) y ≡ tabled hs vs y
      tab y = omega (arith, sum_set (λ t. in_hand (table_has y) t.hand) vs id v u at)

      own : (y : ℕ) → owners (with_count w x n) hs (set vs id u) y ≡ owners w hs vs y
      own y = omega (arith, sum_set (owned y) vs id v u at, owned_is y v, owned_is y u)

      change : (y : ℕ) → drafts (set vs id u) y + is_draft y v.draft ≡ drafts vs y
          + is_draft y draft
      change y = drafts_step z w hs vs id v law at on v.held draft v.hand v.read turn v.stops y

      counted : (y : ℕ) → y < z.names → 2 ≤ y → Dec (y ≡ x) → get_or (set w.counts x n) y 0
          ≡ 2 * drafts (set vs id u) y + owners (with_count w x n) hs (set vs id u) y
      counted y lt two' (yes e) = subst (λ (k : ℕ). get_or (set w.counts x n) k 0
          ≡ 2 * drafts (set vs id u) k + owners (with_count w x n) hs (set vs id u) k) (sym e)
          (omega (
            arith,
            get_or-set_same w.counts x n 0 (omega (arith, law.sized.counts)),
            own x,
            change x,
            law.counted.counts x two small,
          ))
      counted y lt two' (no ne) = omega (
        arith,
        get_or-set_other w.counts x y n 0 ne,
        own y,
        change y,
        others y ne,
        law.counted.counts y two' lt,
      )

      once : (y : ℕ) → Dec (y ≡ x) → tabled hs (set vs id u) y + drafts (set vs id u) y ≤ 1
      once y (yes e) = subst (λ (k : ℕ). tabled hs (set vs id u) k + drafts (set vs id u) k ≤ 1)
          (sym e) (omega (arith, tab x))
      once y (no ne) = omega (arith, tab y, change y, others y ne, law.tables.once y)

      named : (y : ℕ) → 0 < drafts (set vs id u) y → Dec (y ≡ x) → (2 ≤ y) × (y < z.names)
      named y has (yes e) = (omega arith, omega arith)
      named y has (no ne) = law.tables.drafts_named y (omega (arith, change y, others y ne))

      back : (s : ℕ) (t : Entries) → IsTable hs (set vs id u) s t → IsTable hs vs s t
      back s t is = ⊎_elim
          (λ (p : IsTable hs vs s t). p)
          (λ (p : (h : Hand) × (v.hand ≡ Some h) × (h.stripe ≡ s) × (h.entries ≡ t)). inr (
            id,
            v,
            p.0,
            at,
            p.1,
            p.2,
            p.3,
          ))
          (table_cases z w hs vs id v law at on v.held draft v.hand v.read turn v.stops hs s t is)

  no_draft : (x : ℕ) → v.draft ≡ None → is_draft x v.draft ≡ 0
  no_draft x e = ap (is_draft x) e

  pub claim_keeps : (x : ℕ) → MayClaim v x → wins_claim w x ≡ true
      → Lawful z (claimed_words w x) hs (set vs id (claimed v x))
  claim_keeps x may wins =
      let lt : x < z.names = subst (λ (y : Sizes). x < y.names) f.sizes may.2 in
      let free = claimed_is_free z w hs vs x law may.1 lt wins in
      let zero_count = eqb-true (get_or w.counts x 0) 0 wins in
      let none = no_draft x may.3 in
      let one = draft_same x x refl in
      draft_keeps x 2 (Some x) [] (omega arith)
      (λ y n. let a = no_draft y may.3 in let b = draft_other y x (λ e. n (sym e)) in omega arith)
      (let b = free.drafts in let c = free.tabled in
      omega (
        arith,
        drafts_step z w hs vs id v law at on v.held (Some x) v.hand v.read []
            v.stops x,
      )) may.1 lt

  pub draft_is : (d : ℕ) → v.draft ≡ Some d → (2 ≤ d) × (d < z.names) × (drafts vs d ≡ 1)
      × (tabled hs vs d ≡ 0) × (get_or w.counts d 0 ≡ 2) × (owners w hs vs d ≡ 0)
  draft_is d is =
      let here : is_draft d v.draft ≡ 1 = ap (is_draft d) is ∙ draft_same d d refl in
      let some_draft : 1 ≤ drafts vs d = let l = at_le_sum (λ (t : View). is_draft d t.draft) vs id
      v at in omega arith in
      let named = law.tables.drafts_named d some_draft in
      let once = law.tables.once d in
      let no_owner : owners w hs vs d ≡ 0 = go named.0 (omega arith) (dec_le 1 (owners w hs vs d))
      in (
        named.0,
        named.1,
        omega arith,
        omega arith,
        (let n = named.1 in let t = named.0 in
            omega (arith, law.counted.counts d t n)),
        no_owner,
      )
    where
      go : 2 ≤ d → tabled hs vs d ≡ 0 → Dec (1 ≤ owners w hs vs d) → owners w hs vs d ≡ 0
      go two free (yes o) = absurd (let t = law.counted.owners_tabled d two o in omega arith)
      go two free (no n) = omega arith

  pub unclaim_keeps : (d : ℕ) → MayUnclaim v d
      → Lawful z (unclaimed_words w d) hs (set vs id (unclaimed v))
  unclaim_keeps d may =
      let g = draft_is d may.1 in
      let here : is_draft d v.draft ≡ 1 = ap (is_draft d) may.1 ∙ draft_same d d refl in
      let drafted = g.2 in
      let free = g.3 in
      let count = g.4 in
      draft_keeps d 0 None v.turn (omega arith)
      (λ y n. let a : is_draft y v.draft ≡ 0 = ap (is_draft y) may.1
      ∙ draft_other y d (λ e. n (sym e)) in omega arith)
      (omega (
        arith,
        drafts_step z w hs vs id v law at on v.held None v.hand v.read v.turn v.stops
            d,
      )) g.0 g.1

  -- the frame of the steps that change no word
  silent_keeps : (read : Option Read) (turn : List ℕ) → ((r : Read) → read ≡ Some r
      → IsRead w.nodes v.held r) → Lawful z w hs (set vs id (record v { read = read; turn = turn }))
  silent_keeps read turn reads =
      step_keeps z w hs vs id v law at on v.held v.draft v.hand read turn v.stops w.counts w.nodes
      w.locks hs refl refl refl refl (λ y tab. refl)
      (record {
        counts = λ y two' lt. omega (arith, own y, change y, law.counted.counts y two' lt);
        owners_tabled = λ y two' has. omega (
          arith,
          law.counted.owners_tabled y two'
              (omega (arith, own y)),
          tab y,
        );
      })
      (record {
        once = λ y. omega (arith, law.tables.once y, tab y, change y);
        named = λ y has. law.tables.named y (omega (arith, tab y));
        drafts_named = λ y has. law.tables.drafts_named y (omega (arith, change y));
        entries = λ s t p i e is. law.tables.entries s t (back s t p) i e is;
        shaped = λ y has. law.tables.shaped y (omega (arith, tab y));
        unique = λ y y' a b e. law.tables.unique y y' (omega (arith, tab y)) (omega (arith, tab y'))
            e;
        stripes = λ s lt. omega (
          arith,
          law.tables.stripes s lt,
          sum_set (λ t. has_stripe s t.hand)
              vs id v u at,
        );
        locks = law.tables.locks;
      })
      (record { cells = law.right.cells; boxes = law.right.boxes }) f.room
      (λ y has. f.slots y (omega arith)) reads f.hand
    where
      u : View
      u = record v { read = read; turn = turn }

      tab : (y : ℕ) → tabled hs (set vs id u) y ≡ tabled hs vs y
      tab y = omega (arith, sum_set (λ t. in_hand (table_has y) t.hand) vs id v u at)

      own : (y : ℕ) → owners w hs (set vs id u) y ≡ owners w hs vs y
      own y = omega (arith, sum_set (owned y) vs id v u at, owned_is y v, owned_is y u)

      change : (y : ℕ) → drafts (set vs id u) y ≡ drafts vs y
      change y = omega (
        arith,
        drafts_step z w hs vs id v law at on v.held v.draft v.hand read turn
            v.stops y,
      )

      back : (s : ℕ) (t : Entries) → IsTable hs (set vs id u) s t → IsTable hs vs s t
      back s t is = ⊎_elim
          (λ (p : IsTable hs vs s t). p)
          (λ (p : (h : Hand) × (v.hand ≡ Some h) × (h.stripe ≡ s) × (h.entries ≡ t)). inr (
            id,
            v,
            p.0,
            at,
            p.1,
            p.2,
            p.3,
          ))
          (table_cases z w hs vs id v law at on v.held v.draft v.hand read turn v.stops hs s t is)

  pub claim_lost_keeps : (x : ℕ) → Lawful z w hs (set vs id (found_taken v x))
  claim_lost_keeps x = silent_keeps v.read (found_taken v x).turn f.read

  pub read_keeps : (x : ℕ) → MayRead v x
      → Lawful z w hs (set vs id (read_node v x (get_or w.nodes x 0)))
  read_keeps x may = silent_keeps (Some (record { name = x; word = get_or w.nodes x 0 })) v.turn
      (λ r is. reads r is)
    where
      same_read : (a b : Read) → Some a ≡ Some b → a ≡ b
      same_read a b e = cc

      reads : (r : Read) → Some (record { name = x; word = get_or w.nodes x 0 }) ≡ Some r
          → IsRead w.nodes v.held r
      reads r is = subst (λ (k : Read). IsRead w.nodes v.held k)
          (same_read (record { name = x; word = get_or w.nodes x 0 }) r is) (record {
            held_still =
                may.1;
            word_is = refl;
          })

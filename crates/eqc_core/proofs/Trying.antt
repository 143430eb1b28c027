-- A slot is tried by steps: it is taken back, and the counts of its children are taken down.
use Rattle.std.proofs.Common.{◌≡◌, ◌≢◌, ℕ, ◌-◌, ◌<◌, ◌≤◌, List, [], ◌∷◌, ◌++◌, length, set, get_or}
use Rattle.std.proofs.Common.{true, Some, eq-eqb, ne_eqb, refl, sym, ap, subst, ◌∙◌, arith, ⊎_elim}
use mathlib.Core.Option.{some}
use native.Mathlib.Decide.{ℕ_discrete}
use lib.ListN.{get_elem?}
use Rattle.eqc_core.specs.declared.sizes.Sizes.{Sizes}
use Rattle.eqc_core.specs.View.{View, Hand, unused, view_at}
use Rattle.eqc_core.specs.Words.{Words, times, children, slots_of}
use Rattle.eqc_core.specs.Tables.{Entries, Homes, tabled, in_hand, table_has}
use Rattle.eqc_core.specs.Lawful.{Lawful}
use Rattle.eqc_core.specs.Moves.{without, with_count}
use Rattle.eqc_core.specs.Counting.{downed}
use Rattle.eqc_core.specs.Making.{MayReclaim, reclaimed_words, reclaimed}
use Rattle.eqc_core.specs.State.{State, IsLawful}
use Rattle.eqc_core.proofs.Lists.{at_set, at_get, at_below, set_here}
use Rattle.eqc_core.proofs.Sums.{sum_set}
use Rattle.eqc_core.proofs.Names.{times-same, length-slots_of}
use Rattle.eqc_core.proofs.Counting.{down_keeps}
use Rattle.eqc_core.proofs.Tables.{held_tabled}
use Rattle.eqc_core.specs.Collecting.{IsBare, Shrinks, StaysBare, WasTried, down_one, down_all}
use Rattle.eqc_core.specs.Collecting.{taken_back, tried, with_stripe, stripe_home}
use Rattle.eqc_core.specs.Locking.{MayLock, wins_lock, locked_words, locked, MayUnlock}
use Rattle.eqc_core.specs.Locking.{unlocked_words, unlocked}
use Rattle.eqc_core.proofs.Locking.{lock_keeps, lock_tabled, unlock_keeps, unlock_tabled}
use Rattle.eqc_core.proofs.Reclaiming.{reclaim_keeps, reclaimed_is_free}

pub shrinks_refl : (s : State) → Shrinks s s
shrinks_refl s = record { tabled_before = λ y t. t; same_word = λ y t. refl }

pub shrinks_trans : (s t u : State) → Shrinks s t → Shrinks t u → Shrinks s u
shrinks_trans s t u a b = record {
  tabled_before = λ y k. a.tabled_before y (b.tabled_before y k);
  same_word = λ y k. b.same_word y k ∙ a.same_word y (b.tabled_before y k);
}

without_first : (x : ℕ) (xs : List ℕ) → without x (x ∷ xs) ≡ xs
without_first x xs = rw (eq-eqb x x refl) refl

-- worker 0 is there
first_at : (z : Sizes) (w : Words) (hs : Homes) (vs : List View) → Lawful z w hs vs
    → (get_elem? vs 0 ≡ some (view_at vs 0)) × ((view_at vs 0).active ≡ true)
first_at z w hs vs law =
    let f = law.seated.first in
    let e : view_at vs 0 ≡ f.0 = at_get vs 0 f.0 unused f.1 in
    (f.1 ∙ ap some (sym e), ap (λ (v : View). v.active) e ∙ f.2)

-- the view of worker 0 changes in what it holds, reads and has in hand
bare_after : (held held' : List ℕ) (w w' : Words) (vs : List View) (u : View) → 0 < length vs
    → IsBare held w vs → w'.cells ≡ w.cells →
    w'.boxes ≡ w.boxes → u.held ≡ held' → u.retired ≡ (view_at vs 0).retired
    → u.position ≡ (view_at vs 0).position → u.draft ≡ (view_at vs 0).draft →
    IsBare held' w' (set vs 0 u)
bare_after held held' w w' vs u there bare cells boxes h r p d =
    let e : view_at (set vs 0 u) 0 ≡ u = at_get (set vs 0 u) 0 u unused (set_here vs 0 u there) in
    record {
      alone = λ i t at on. ⊎_elim (λ (q : (i ≡ 0) × (u ≡ t)). q.0) (λ (q : (i ≢ 0)
          × (get_elem? vs i ≡ some t)). bare.alone i t q.1 on) (at_set vs 0 i u t at);
      holds = ap (λ (v : View). v.held) e ∙ h;
      retired = ap (λ (v : View). v.retired) e ∙ (r ∙ bare.retired);
      ready = ap (λ (v : View). v.position) e ∙ (p ∙ bare.ready);
      draft = ap (λ (v : View). v.draft) e ∙ (d ∙ bare.draft);
      cells = λ c word at. bare.cells c word (ap (λ (l : List ℕ). get_elem? l c) (sym cells) ∙ at);
      boxes = λ b word at. bare.boxes b word (ap (λ (l : List ℕ). get_elem? l b) (sym boxes) ∙ at);
    }

down_one_is : (s : State) (x : ℕ) (xs : List ℕ) → IsLawful s → IsBare (x ∷ xs) s.words s.views →
    IsLawful (down_one x s) × IsBare xs (down_one x s).words (down_one x s).views
    × Shrinks s (down_one x s)
down_one_is s x xs law bare =
    let p = first_at s.sizes s.words s.homes s.views law in
    let f = law.views 0 v p.0 p.1 in
    let has : 0 < times x v.held = subst (λ (l : List ℕ). 0 < times x l) (sym bare.holds)
    (omega (arith, times-same x x xs refl)) in
    let two : 2 ≤ x = f.slots x (omega arith) in
    let small : x < v.sizes.names = subst (λ (z : Sizes). x < z.names) (sym f.sizes)
    (law.tables.named x (held_there p.0 two has)).1 in (
      down_keeps s.sizes s.words s.homes s.views 0 v law p.0 p.1 x (bare.ready, two, small, has),
      bare_after (x ∷ xs) xs s.words (with_count s.words x (get_or s.words.counts x 0 - 1)) s.views
          (downed v x) (at_below s.views 0 v p.0) bare
          refl refl (ap (without x) bare.holds ∙ without_first x xs) refl refl refl,
      record {
        tabled_before = λ y t. omega (
          arith,
          sum_set (λ (k : View). in_hand (table_has y) k.hand)
              s.views 0 v (downed v x) p.0,
        );
        same_word = λ y t. refl;
      },
    )
  where
    v : View
    v = view_at s.views 0

    held_there : get_elem? s.views 0 ≡ some v → 2 ≤ x → 0 < times x v.held
        → 0 < tabled s.homes s.views x
    held_there at two has = held_tabled s.sizes s.words s.homes s.views law 0 x v at two has

down_all_is : (xs : List ℕ) (s : State) → IsLawful s → IsBare xs s.words s.views
    → IsLawful (down_all xs s) × IsBare [] (down_all xs s).words (down_all xs s).views
    × Shrinks s (down_all xs s)
down_all_is [] s law bare = (law, bare, shrinks_refl s)
down_all_is (x ∷ xs) s law bare =
    let a = down_one_is s x xs law bare in
    let b = down_all_is xs (down_one x s) a.0 a.1 in
    (b.0, b.1, shrinks_trans s (down_one x s) (down_all xs (down_one x s)) a.2 b.2)

module _ (s : State) (x : ℕ) (h : Hand) (law : IsLawful s) (bare : IsBare [] s.words s.views)
    (hand : (view_at s.views 0).hand ≡ Some h) (has : 0 < table_has x h.entries) where
  abbrev children_of : List ℕ
  children_of = slots_of (children (get_or s.words.nodes x 0))

  back_is : get_or s.words.counts x 0 ≡ 1 →
      IsLawful (taken_back x h s) × IsBare (slots_of (children (get_or s.words.nodes x 0)))
      (taken_back x h s).words
      (taken_back x h s).views × Shrinks s (taken_back x h s)
      × (tabled (taken_back x h s).homes (taken_back x h s).views x ≡ 0)
  back_is one =
      let p = first_at s.sizes s.words s.homes s.views law in
      let may : MayReclaim s.words v h x = (bare.ready, hand, has, one) in
      let free = reclaimed_is_free s.sizes s.words s.homes s.views 0 v law p.0 p.1 x h may in
      let held : (reclaimed v h x (get_or s.words.nodes x 0)).held
      ≡ slots_of (children (get_or s.words.nodes x 0)) =
      ap (λ (l : List ℕ). l ++ slots_of (children (get_or s.words.nodes x 0))) bare.holds in (
        reclaim_keeps s.sizes s.words s.homes s.views 0 v law p.0 p.1 x h may (let l =
            length-slots_of (children (get_or s.words.nodes x 0)) in let e = ap length held in
            omega arith),
        bare_after [] (slots_of (children (get_or s.words.nodes x 0))) s.words
            (reclaimed_words s.words x) s.views
            (reclaimed v h x (get_or s.words.nodes x 0)) (at_below s.views 0 v p.0) bare refl refl
            held refl refl refl,
        record {
          tabled_before = λ y t. before y t free.1 free.2 (ℕ_discrete y x);
          same_word =
              λ y t. refl;
        },
        free.1,
      )
    where
      v : View
      v = view_at s.views 0

      before : (y : ℕ) → 0 < tabled s.homes
          (set s.views 0 (reclaimed v h x (get_or s.words.nodes x 0))) y
          → tabled s.homes (set s.views 0 (reclaimed v h x (get_or s.words.nodes x 0))) x ≡ 0
          → ((y : ℕ) → y ≢ x → tabled s.homes
          (set s.views 0 (reclaimed v h x (get_or s.words.nodes x 0))) y ≡ tabled s.homes s.views
          y) → Dec (y ≡ x) → 0 < tabled s.homes s.views y
      before y t gone same (yes e) =
          absurd (let k = subst (λ (i : ℕ). 0
          < tabled s.homes (set s.views 0 (reclaimed v h x (get_or s.words.nodes x 0))) i) e t in
          omega arith)
      before y t gone same (no n) = omega (arith, same y n)

  abbrev Outcome : State → Type 0
  Outcome t = IsLawful t × IsBare [] t.words t.views × Shrinks s t × ((u : State) → Shrinks t u
      → 0 < tabled u.homes u.views x → WasTried s u x)

  pub tries_are_steps : Outcome (tried x h s)
  tries_are_steps = go (ℕ_discrete (get_or s.words.counts x 0) 1)
    where
      go : Dec (get_or s.words.counts x 0 ≡ 1) → Outcome (tried x h s)
      go (yes one) =
          let a = back_is one in
          let b = down_all_is (slots_of (children (get_or s.words.nodes x 0))) (taken_back x h s)
          a.0 a.1 in
          let t : State = down_all (slots_of (children (get_or s.words.nodes x 0)))
          (taken_back x h s) in
          rw (eq-eqb (get_or s.words.counts x 0) 1 one) (
            b.0,
            b.1,
            shrinks_trans s (taken_back x h s) t a.2 b.2,
            λ u shrinks tab. absurd (let k =
                b.2.tabled_before x (shrinks.tabled_before x tab) in let gone = a.3 in omega arith),
          )
      go (no n) = rw (ne_eqb (get_or s.words.counts x 0) 1 n) (
        law,
        bare,
        shrinks_refl s,
        λ u shrinks tab. record {
          m = s;
          lawful = law;
          bare = bare;
          before = shrinks_refl s;
          after = shrinks;
          shared = n;
        },
      )

pub stripe_taken : (s : State) (i : ℕ) (t : Entries) → IsLawful s → IsBare [] s.words s.views
    → MayLock (view_at s.views 0) i → wins_lock s.words i ≡ true → get_elem? s.homes i
    ≡ some (some t)
    → StaysBare s (with_stripe i t s)
stripe_taken s i t law bare may wins home =
    let v : View = view_at s.views 0 in
    let p = first_at s.sizes s.words s.homes s.views law in (
      lock_keeps s.sizes s.words s.homes s.views 0 v law p.0 p.1 i t may wins home,
      bare_after [] [] s.words (locked_words s.words i) s.views (locked v i t)
          (at_below s.views 0 v p.0) bare refl refl bare.holds refl refl refl,
      record {
        tabled_before = λ y tab. omega (
          arith,
          lock_tabled s.sizes s.words s.homes s.views 0
              v law p.0 p.1 i t may home y,
        );
        same_word = λ y tab. refl;
      },
    )

pub stripe_put : (s : State) (h : Hand) (t : Entries) → IsLawful s → IsBare [] s.words s.views
    → MayUnlock (view_at s.views 0) h t
    → StaysBare s (stripe_home h t s)
stripe_put s h t law bare may =
    let v : View = view_at s.views 0 in
    let p = first_at s.sizes s.words s.homes s.views law in (
      unlock_keeps s.sizes s.words s.homes s.views 0 v law p.0 p.1 h t may,
      bare_after [] [] s.words (unlocked_words s.words h) s.views (unlocked v)
          (at_below s.views 0 v p.0) bare refl refl bare.holds refl refl refl,
      record {
        tabled_before = λ y tab. omega (
          arith,
          unlock_tabled s.sizes s.words s.homes s.views
              0 v law p.0 p.1 h t may y,
        );
        same_word = λ y tab. refl;
      },
    )

-- The one combinator of all steps: a step owes its new words, that the state after it is lawful,
-- and what it tells; the trees and the copies follow here.
use Rattle.std.proofs.Common.{◌≡◌, ◌≢◌, ℕ, zero, suc, ◌^◌, ◌<◌, ◌≤◌, List, [], ◌∷◌, map, set}
use Rattle.std.proofs.Common.{get_or, true, false, Option, Some, None, refl, sym, ap, subst, ◌∙◌}
use Rattle.std.proofs.Common.{⊎_elim, inr}
use Rattle.std.specs.HashMap.{HashMap}
use Rattle.std.proofs.lemmas.List.{map-set, set-get_or}
use mathlib.Core.Option as May
use mathlib.Core.Option.{some, some-injective, some-ne-none}
use lib.ListN.{get_elem?}
use Rattle.atomic_table.specs.Table.{State, Me, Act, keeps, Allows, Valid, homes_after}
use Rattle.atomic_table.specs.Table.{carried_after}
use Rattle.atomic_table.proofs.Lists.{at_map}
use Rattle.eqc_tree.specs.Tree.{Tree}
use Rattle.eqc_core.specs.declared.sizes.Sizes.{Sizes}
use Rattle.eqc_core.specs.View.{View}
use Rattle.eqc_core.specs.Words.{Words}
use Rattle.eqc_core.specs.Tables.{IsName}
use Rattle.eqc_core.specs.Trees.{IsTree}
use Rattle.eqc_core.specs.Lawful.{Lawful}
use Rattle.eqc_core.proofs.Lists.{at_set, at_below, set_again, set_here, set_else}
use Rattle.eqc_core.proofs.Bounds.{nothing_out_is_alone}
use Rattle.eqc_core.proofs.Trees.{is_tree_one}
use Rattle.eqc_guard.specs.Known.{flat, Known, Knows, IsExact, IsKnown, Stepped, names_of, tree_of}
use Rattle.eqc_guard.specs.Telling.{Copied, Copies, Told, Nothing, Settles, copied}
use Rattle.eqc_guard.specs.Rule.{Held, CopyHolds, homes_of, cores}
use Rattle.eqc_guard.proofs.Learning.{learn, named_tabled, is_known}

pub back_map : {A B : Type 0} (f : A → B) (l : List A) (j : ℕ) (u : B) → get_elem? (map f l) j
    ≡ some u → (a : A) × (get_elem? l j ≡ some a) × (f a ≡ u)
back_map f [] j u e = absurd (some-ne-none u (sym e))
back_map f (x ∷ xs) zero u e = (x, refl, some-injective (f x) u e)
back_map f (x ∷ xs) (suc j) u e = back_map f xs j u e

copy_some : (c : Option (List ℕ)) (i m : ℕ) (ws : List ℕ) → copied c i m ≡ Some ws → (xs : List ℕ)
    × (c ≡ Some xs) × (ws ≡ set xs i m)
copy_some None i m ws e = absurd (cc)
copy_some (Some xs) i m ws e = (xs, refl, (let q : set xs i m ≡ ws = cc in sym q))

copied_some : (c : Option (List ℕ)) (i m : ℕ) (ws : List ℕ) → c ≡ Some ws → (left : List ℕ)
    × (copied c i m ≡ Some left)
copied_some c i m ws e = (set ws i m, ap (λ (o : Option (List ℕ)). copied o i m) e)

-- what a step pays where it finds these words, tables and views: v is its new view, and m the
-- number that it leaves
pub record Pays {S : Type 0} (z : Sizes) (id i : ℕ) (me : Me (HashMap ℕ ℕ S) Known) (m : ℕ)
    (w : Words)
    (homes : List (May.Option (HashMap ℕ ℕ S))) (vs : List View) (v : View)
    (a : Act (HashMap ℕ ℕ S)) (w' : Words) : Type 0 where
  pub valid : Valid homes me.1 a
  pub live : v.active ≡ true
  pub laid : set (flat w) i m ≡ flat w'
  pub trees : (t : Tree) (x : ℕ) → IsName (homes_of homes) vs x → IsTree w.nodes t x
      → IsTree w'.nodes t x
  pub lawful : Lawful z w' (homes_of (homes_after homes me.1 a)) (set vs id v)

-- what the worker knows after it, with a copy of the words or none, and so many steps up and down
pub record Goes {S : Type 0} (z : Sizes) (id i : ℕ) (me : Me (HashMap ℕ ℕ S) Known) (m : ℕ)
    (s : State (HashMap ℕ ℕ S) Known) (v : View)
    (a : Act (HashMap ℕ ℕ S)) (w' : Words) (copy : Option (List ℕ)) (count : ℕ) : Type 0 where
  pub after : Known
  pub held : Held {S = S} z (record {
    words = set s.words i m;
    homes = homes_after s.homes me.1 a;
    views = set s.views id after;
  })
  pub stepped : Stepped me.0 v after
  pub copy_is : after.copy ≡ copy
  pub counted_is : after.counted ≡ count
  pub knows : Knows w'.nodes after

module _ {S : Type 0} (z : Sizes) (slots id i : ℕ) (me : Me (HashMap ℕ ℕ S) Known)
    (on : me.0.core.active ≡ true) where
  -- whatever a lawful state it finds
  abbrev pub Owes : (ℕ → ℕ) → (ℕ → ℕ) → (ℕ → Me (HashMap ℕ ℕ S) Known → Type 0) → Type 0
  Owes more f tells = (w : Words) (homes : List (May.Option (HashMap ℕ ℕ S))) (vs : List View)
      → Lawful z w (homes_of homes) vs →
      get_elem? vs id ≡ some me.0.core → Knows w.nodes me.0 → get_or (flat w) i 0 < 2 ^ 64
      → (v : View) × (a : Act (HashMap ℕ ℕ S)) × (w' : Words)
      × Pays z id i me (f (get_or (flat w) i 0)) w homes vs v a w'
      × ((k : Known) → Stepped me.0 v k
      → Copies me.0 i (get_or (flat w) i 0) (f (get_or (flat w) i 0)) k → Knows w'.nodes k →
      k.counted ≡ more me.0.counted → tells (get_or (flat w) i 0) (k, carried_after me.1 a))

  module _ (s : State (HashMap ℕ ℕ S) Known) (h : Held z s) (seat : get_elem? s.views id
      ≡ some me.0) (m : ℕ) (v : View) (a : Act (HashMap ℕ ℕ S))
      (w' : Words) (pays : Pays z id i me m h.words s.homes (cores s.views) v a w')
      (copy : Option (List ℕ))
      (copy_is : (ws : List ℕ) → copy ≡ Some ws → (ws ≡ set s.words i m) × ((j : ℕ) (u : Known)
      → (j ≡ id → ⊥) → get_elem? s.views j ≡ some u → u.core.active ≡ false))
      (copy_stays : (ws : List ℕ) → me.0.copy ≡ Some ws → (left : List ℕ) × (copy ≡ Some left))
      (count : ℕ) where
    at : get_elem? (cores s.views) id ≡ some me.0.core
    at = at_map (λ (k : Known). k.core) s.views id me.0 seat

    here : get_elem? (set (cores s.views) id v) id ≡ some v
    here = set_here (cores s.views) id v (at_below (cores s.views) id me.0.core at)

    learnt : (ps : List (ℕ × Tree))
        × ((x : ℕ) → 2 ≤ x → 0 < Rattle.eqc_core.specs.Words.times x (names_of v)
        → IsTree w'.nodes (Rattle.eqc_guard.specs.Known.tree_in ps x) x)
        × ((j : ℕ) (p : ℕ × Tree) → get_elem? ps j ≡ some p → (2 ≤ p.0)
        × (0 < Rattle.eqc_core.specs.Words.times p.0 (names_of v)) × IsTree w'.nodes p.1 p.0)
    learnt = learn z w' (homes_of (homes_after s.homes me.1 a)) (set (cores s.views) id v) id v
        pays.lawful here pays.live

    abbrev after : Known
    after = record { core = v; trees = learnt.0; copy = copy; counted = count }

    laid_after : set s.words i m ≡ flat w'
    laid_after = ap (λ (l : List ℕ). set l i m) h.laid ∙ pays.laid

    views_after : cores (set s.views id after) ≡ set (cores s.views) id v
    views_after = map-set (λ (k : Known). k.core) s.views id after

    -- the trees of the others stay, since what they name is tabled
    others : (j : ℕ) (k : Known) → j ≢ id → get_elem? s.views j ≡ some k → k.core.active ≡ true
        → Knows w'.nodes k
    others j k apart e act x two named =
        pays.trees (tree_of k x) x
        (inr (named_tabled z h.words (homes_of s.homes) (cores s.views) j x k.core h.lawful
        (at_map (λ (k : Known). k.core) s.views j k e) act two named))
        (h.knows j k e act x two named)

    others_exact : (j : ℕ) (k : Known) → get_elem? s.views j ≡ some k → k.core.active ≡ true
        → IsExact w'.nodes k
    others_exact j k e act i p kept =
        let x = h.exact j k e act i p kept in (
          x.0,
          x.1,
          pays.trees p.1 p.0 (inr (named_tabled z h.words (homes_of s.homes)
              (cores s.views) j p.0 k.core h.lawful (at_map (λ (k : Known). k.core) s.views j k e) act
              x.0 x.1)) x.2,
        )

    copies_after : (j : ℕ) (k : Known) (ws : List ℕ) → get_elem? (set s.views id after) j ≡ some k
        → k.copy ≡ Some ws → CopyHolds (set s.words i m) (set s.views id after) j ws
    copies_after j k ws e has = ⊎_elim
        (λ (p : (j ≡ id) × (after ≡ k)).
        let c = copy_is ws (ap (λ (t : Known). t.copy) p.1 ∙ has) in
        record {
          same = c.0;
          alone = λ l t apart there. ⊎_elim
              (λ (q : (l ≡ id) × (after ≡ t)). absurd (apart (q.0 ∙ sym p.0)))
              (λ (q : (l ≢ id) × (get_elem? s.views l ≡ some t)). c.1 l t q.0 q.1)
              (at_set s.views id l after t there);
        })
        (λ (p : (j ≢ id) × (get_elem? s.views j ≡ some k)).
        let g = h.copies j k ws p.1 has in
        absurd (let q : true ≡ false = sym on ∙ g.alone id me.0 (λ e. p.0 (sym e)) seat in cc))
        (at_set s.views id j after k e)

    held_after : Held {S = S} z (record {
      words = set s.words i m;
      homes =
          homes_after s.homes me.1 a;
      views = set s.views id after;
    })
    held_after = record {
      words = w';
      laid = laid_after;
      lawful = subst (λ (vs : List View). Lawful z w' (homes_of (homes_after s.homes me.1 a)) vs)
          (sym views_after) pays.lawful;
      knows = λ j k e act. ⊎_elim
          (λ (p : (j ≡ id) × (after ≡ k)). subst (λ (t : Known). Knows w'.nodes t) p.1 learnt.1)
          (λ (p : (j ≢ id) × (get_elem? s.views j ≡ some k)). others j k p.0 p.1 act)
          (at_set s.views id j after k e);
      exact = λ j k e act. ⊎_elim
          (λ (p : (j ≡ id) × (after ≡ k)). subst (λ (t : Known). IsExact w'.nodes t) p.1 learnt.2)
          (λ (p : (j ≢ id) × (get_elem? s.views j ≡ some k)). others_exact j k p.1 act)
          (at_set s.views id j after k e);
      copies = copies_after;
    }

    known_after : IsKnown after
    known_after =
        is_known z w' (homes_of (homes_after s.homes me.1 a)) (set (cores s.views) id v) id after
        pays.lawful here pays.live learnt.1 (λ ws has.
        let c = copy_is ws has in
        record {
          words = w';
          homes = homes_of (homes_after s.homes me.1 a);
          views = set (cores s.views) id v;
          id = id;
          laid = c.0 ∙ laid_after;
          lawful = subst (λ (y : Sizes). Lawful y w' (homes_of (homes_after s.homes me.1 a))
              (set (cores s.views) id v)) (sym (pays.lawful.views id v here pays.live).sizes)
              pays.lawful;
          mine = here;
          alone = λ j t apart there. let b = back_map (λ (k : Known). k.core) s.views j t
              (sym (set_else (cores s.views) id j v apart) ∙ there) in
              ap (λ (u : View). u.active) (sym b.2) ∙ c.1 j b.0 apart b.1;
        })

    stepped : Stepped me.0 v after
    stepped = record {
      core = refl;
      copy = copy_stays;
      agrees = λ x two was is. is_tree_one w'.nodes (tree_of after x) (tree_of me.0 x) x
          (learnt.1 x two is)
          (pays.trees (tree_of me.0 x) x (inr (named_tabled z h.words (homes_of s.homes)
          (cores s.views) id x me.0.core h.lawful at on two was)) (h.knows id me.0 seat on x two
          was));
      known = known_after;
    }

    pub goes : Goes z id i me m s v a w' copy count
    goes = record {
      after = after;
      held = held_after;
      stepped = stepped;
      copy_is = refl;
      counted_is = refl;
      knows = learnt.1;
    }

  -- a worker's copy after its own step
  own_copy : (s : State (HashMap ℕ ℕ S) Known) (h : Held z s) → get_elem? s.views id ≡ some me.0
      → (m : ℕ) (ws : List ℕ) → copied me.0.copy i m ≡ Some ws
      → (ws ≡ set s.words i m) × ((j : ℕ) (u : Known) → (j ≡ id → ⊥) → get_elem? s.views j ≡ some u
      → u.core.active ≡ false)
  own_copy s h seat m ws has =
      let c = copy_some me.0.copy i m ws has in
      let g = h.copies id me.0 c.0 seat c.1 in
      (c.2 ∙ ap (λ (l : List ℕ). set l i m) g.same, g.alone)

  -- so a step that pays in every lawful state is allowed by the rule
  pub allows : (more f : ℕ → ℕ) (tells : ℕ → Me (HashMap ℕ ℕ S) Known → Type 0) → Owes more f tells
      → Allows (Held {S = S} z) slots id me i f tells
  allows more f tells owes s h homes seat small =
      let n : ℕ = get_or (flat h.words) i 0 in
      let same : get_or s.words i 0 ≡ get_or (flat h.words) i 0 =
      ap (λ (l : List ℕ). get_or l i 0) h.laid in
      let o = owes h.words s.homes (cores s.views) h.lawful (at_map (λ (k : Known). k.core) s.views
      id me.0 seat) (h.knows id me.0 seat on) (subst (λ (n : ℕ). n < 2 ^ 64) same small) in
      let g =
      goes s h seat (f (get_or (flat h.words) i 0)) o.0 o.1 o.2 o.3
      (copied me.0.copy i (f (get_or (flat h.words) i 0)))
      (own_copy s h seat (f (get_or (flat h.words) i 0))) (copied_some me.0.copy i
      (f (get_or (flat h.words) i 0))) (more me.0.counted) in
      let told = o.4 g.after g.stepped (record {
        copy = g.copy_is;
        seen =
            λ ws has. ap (λ (l : List ℕ). get_or l i 0) ((h.copies id me.0 ws seat has).same
            ∙ h.laid);
      }) g.knows g.counted_is in (
        g.after,
        o.1,
        o.3.valid,
        subst (λ (k : ℕ). Held {S = S} z (record {
          words = set s.words i (f k);
          homes =
              homes_after s.homes me.1 o.1;
          views = set s.views id g.after;
        })) (sym same) g.held,
        subst (λ (k : ℕ). tells k (g.after, carried_after me.1 o.1)) (sym same) told,
      )

  -- a load that leaves the view pays in each lawful state
  stays : (s : State (HashMap ℕ ℕ S) Known) (h : Held z s) → get_elem? s.views id ≡ some me.0
      → Pays z id i me (get_or s.words i 0) h.words s.homes (cores s.views) me.0.core keeps h.words
  stays s h seat = record {
    valid = tt;
    live = on;
    laid = subst (λ (l : List ℕ). set (flat h.words) i (get_or l i 0) ≡ flat h.words) (sym h.laid)
        (set-get_or (flat h.words) i 0);
    trees = λ t x named is. is;
    lawful = subst (λ (vs : List View). Lawful z h.words (homes_of s.homes) vs)
        (sym (set_again (cores s.views) id me.0.core (at_map (λ (k : Known). k.core) s.views id me.0
        seat))) h.lawful;
  }

  -- after it each kept tree is the one that is known
  pub settle_allows : Allows (Held {S = S} z) slots id me i (λ n. n) (λ n after. Told me i n n
      me.0.core after (Settles me.0 n))
  settle_allows s h homes seat small =
      let n : ℕ = get_or s.words i 0 in
      let g =
      goes s h seat (get_or s.words i 0) me.0.core keeps h.words (stays s h seat)
      (copied me.0.copy i (get_or s.words i 0))
      (own_copy s h seat (get_or s.words i 0)) (copied_some me.0.copy i (get_or s.words i 0))
      me.0.counted in
      let copies : Copies me.0 i (get_or s.words i 0) (get_or s.words i 0) g.after =
      record {
        copy = g.copy_is;
        seen = λ ws has. ap (λ (l : List ℕ). get_or l i 0)
            (h.copies id me.0 ws seat has).same;
      } in (
        g.after,
        keeps,
        tt,
        g.held,
        (
          g.stepped,
          refl,
          copies,
          λ j p e.
              let x = h.exact id me.0 seat on j p e in
              is_tree_one h.words.nodes (tree_of g.after p.0) p.1 p.0
              (g.knows p.0 x.0 (subst (λ (v : View). 0 < Rattle.eqc_core.specs.Words.times p.0
              (names_of v)) (sym g.stepped.core) x.1)) x.2,
          g.counted_is,
        ),
      )

  -- a load that leaves the view
  pub read_allows : Allows (Held {S = S} z) slots id me i (λ n. n) (λ n after. Told me i n n
      me.0.core after (Nothing n))
  read_allows s h homes seat small = let r = settle_allows s h homes seat small in let t = r.4 in
      (r.0, r.1, r.2, r.3, (t.0, t.1, t.2, tt, t.4))

  -- a load by worker 0 while no number is out takes a copy of all words
  pub alone_allows : me.0.core.number ≡ 0 → me.0.core.out ≡ []
      → Allows (Held {S = S} z) slots id me i (λ n. n) (λ n after. Copied me after)
  alone_allows first none s h homes seat small =
      let at = at_map (λ (k : Known). k.core) s.views id me.0 seat in
      let g = goes s h seat (get_or s.words i 0) me.0.core keeps h.words (stays s h seat)
      (Some s.words) (λ ws e. (
        (let q : s.words ≡ ws = cc in sym q) ∙ sym (set-get_or s.words i 0),
        λ j u apart there. nothing_out_is_alone z h.words (homes_of s.homes) (cores s.views) id
            me.0.core h.lawful at on j u.core first none (at_map (λ (k : Known). k.core) s.views j u
            there) apart,
      )) (λ ws e. (s.words, refl)) me.0.counted in (
        g.after,
        keeps,
        tt,
        g.held,
        (
          g.stepped,
          refl,
          (s.words, g.copy_is, λ had e. sym (h.copies id me.0 had seat e).same),
          g.counted_is,
        ),
      )

-- A split and a join keep the rule.
use Rattle.std.proofs.Common.{◌≡◌, ◌≢◌, ◌⊎◌, ℕ, zero, suc, ◌+◌, ◌*◌, ◌^◌, ◌<◌, ◌≤◌, List, [], ◌∷◌}
use Rattle.std.proofs.Common.{◌++◌, length, set, ltb, true, false, Option, Some, None, eq-eqb}
use Rattle.std.proofs.Common.{ne_eqb, refl, sym, ap, subst, ◌∙◌, arith, inl, inr, ⊎_elim}
use Rattle.std.specs.HashMap.{HashMap}
use Rattle.std.proofs.lemmas.Bool.{lt-ltb}
use Rattle.std.proofs.lemmas.List.{map-set, map-append}
use native.Mathlib.Decide.{ℕ_discrete, dec_le}
use mathlib.Core.Option.{some, some-injective, some-ne-none}
use lib.ListN.{get_elem?}
use Rattle.atomic_table.specs.Table.{State, Splits, Joins}
use Rattle.atomic_table.proofs.Lists.{at_map}
use Rattle.eqc_tree.specs.Tree.{Tree, False}
use Rattle.eqc_core.specs.declared.sizes.Sizes.{Sizes}
use Rattle.eqc_core.specs.View.{View, Read, idle, fresh, spent, unused, view_at}
use Rattle.eqc_core.specs.Words.{announced_words, times}
use Rattle.eqc_core.specs.Trees.{IsTree}
use Rattle.eqc_core.specs.Lawful.{Lawful}
use Rattle.eqc_core.specs.Moves.{IsReady, forget}
use Rattle.eqc_core.specs.Seating.{splitter, split, MayJoin, joined, join}
use Rattle.eqc_core.proofs.Lists.{at_set, at_get, set_else}
use Rattle.eqc_core.proofs.Names.{times-append, times-nil}
use Rattle.eqc_core.proofs.Frames.{forgets}
use Rattle.eqc_core.proofs.Scanning.{some_cases}
use Rattle.eqc_core.proofs.Bounds.{splits_come_last}
use Rattle.eqc_core.proofs.Splitting.{split_keeps}
use Rattle.eqc_core.proofs.Joining.{join_keeps}
use Rattle.eqc_guard.specs.Known.{Known, Knows, IsExact, nobody, kept_tree, tree_of, names_of}
use Rattle.eqc_guard.specs.Known.{read_names, confirmed_names}
use Rattle.eqc_guard.specs.Rule.{Held, homes_of, cores}
use Rattle.eqc_guard.specs.Seats.{split_left, split_off, only, both, MayTake}
use Rattle.eqc_guard.proofs.Learning.{names_is, tree_else}

-- a place in a list with one more at its end
pub at_end : {A : Type 0} (l : List A) (y b : A) (i : ℕ) → get_elem? (l ++ y ∷ []) i ≡ some b
    → (get_elem? l i ≡ some b) ⊎ (y ≡ b)
at_end [] y b zero e = inr (some-injective y b e)
at_end [] y b (suc i) e = absurd (some-ne-none b (sym e))
at_end (x ∷ xs) y b zero e = inl e
at_end (x ∷ xs) y b (suc i) e = at_end xs y b i e

idle_none : (x n : ℕ) → times x (confirmed_names (idle n)) ≡ 0
idle_none x zero = times-nil x
idle_none x (suc n) = idle_none x n

pub fresh_none : (x : ℕ) (z : Sizes) (n : ℕ) → times x (names_of (fresh z n)) ≡ 0
fresh_none x z n = omega (arith, names_is x (fresh z n), times-nil x, idle_none x z.announcements)

pub split_names : (x : ℕ) (v : View) (to : ℕ) → times x (names_of (splitter v to))
    ≡ times x (names_of v)
split_names x v to = omega (arith, names_is x v, names_is x (splitter v to))

-- a copy is of a worker that is alone
no_copy : {S : Type 0} (z : Sizes) (s : State (HashMap ℕ ℕ S) Known) (h : Held z s) (id j : ℕ)
    (k u : Known) (ws : List ℕ) →
    get_elem? s.views id ≡ some k → k.core.active ≡ true → j ≢ id → get_elem? s.views j ≡ some u
    → u.copy ≡ Some ws → ⊥
no_copy z s h id j k u ws seat on apart e has = let q : true ≡ false = sym on
    ∙ (h.copies j u ws e has).alone id k (λ p. apart (sym p)) seat in cc

pub splits_allowed : {S : Type 0} (z : Sizes) (id : ℕ) (k : Known) → k.core.active ≡ true
    → IsReady k.core → k.core.number ≡ 0 →
    k.core.given < k.core.sizes.workers → Splits (Held {S = S} z) id k (split_left k) (split_off k)
splits_allowed z id k on ready zero_is few s h seat = record {
  words = h.words;
  laid = h.laid;
  lawful = subst (λ (vs : List View). Lawful z h.words (homes_of s.homes) vs) (last.1
      ∙ sym views) law;
  knows = λ j u e act.
      ⊎_elim
      (λ p.
      ⊎_elim (λ (q : (j ≡ id) × (split_left k ≡ u)). subst (λ (t : Known). Knows h.words.nodes t)
      q.1 left)
      (λ (q : (j ≢ id) × (get_elem? s.views j ≡ some u)). h.knows j u q.1 act)
      (at_set s.views id j (split_left k) u p))
      (λ (q : split_off k ≡ u). subst (λ (t : Known). Knows h.words.nodes t) q
      (λ x two named. absurd (omega (arith, fresh_none x k.core.sizes k.core.given))))
      (at_end (set s.views id (split_left k)) (split_off k) u j e);
  exact = λ j u e act.
      ⊎_elim
      (λ p.
      ⊎_elim (λ (q : (j ≡ id) × (split_left k ≡ u)). subst (λ (t : Known). IsExact h.words.nodes t)
      q.1 left_exact)
      (λ (q : (j ≢ id) × (get_elem? s.views j ≡ some u)). h.exact j u q.1 act)
      (at_set s.views id j (split_left k) u p))
      (λ (q : split_off k ≡ u). subst (λ (t : Known). IsExact h.words.nodes t) q
      (λ i p e. absurd (some-ne-none p (sym e))))
      (at_end (set s.views id (split_left k)) (split_off k) u j e);
  copies = λ j u ws e has.
      absurd
      (⊎_elim
      (λ p.
      ⊎_elim (λ (q : (j ≡ id) × (split_left k ≡ u)). let c : None ≡ Some ws =
      ap (λ (t : Known). t.copy) q.1 ∙ has in cc)
      (λ (q : (j ≢ id) × (get_elem? s.views j ≡ some u)). no_copy z s h id j k u ws seat on q.0 q.1
      has)
      (at_set s.views id j (split_left k) u p))
      (λ (q : split_off k ≡ u). let c : None ≡ Some ws = ap (λ (t : Known). t.copy) q ∙ has in cc)
      (at_end (set s.views id (split_left k)) (split_off k) u j e));
}
  where
    at : get_elem? (cores s.views) id ≡ some k.core
    at = at_map (λ (t : Known). t.core) s.views id k seat

    last : Rattle.eqc_core.specs.Seating.MaySplit (cores s.views) k.core
        k.core.given × (split (cores s.views) id k.core k.core.given ≡ set (cores s.views) id
        (splitter k.core k.core.given) ++ fresh k.core.sizes k.core.given ∷ [])
    last = splits_come_last z h.words (homes_of s.homes) (cores s.views) id k.core h.lawful at on
        ready zero_is few

    law : Lawful z h.words (homes_of s.homes) (split (cores s.views) id k.core k.core.given)
    law = split_keeps z h.words (homes_of s.homes) (cores s.views) id k.core.given k.core h.lawful
        at on last.0

    views : cores (set s.views id (split_left k) ++ split_off k ∷ []) ≡ set (cores s.views) id
        (splitter k.core k.core.given) ++ fresh k.core.sizes k.core.given ∷ []
    views = map-append (λ (t : Known). t.core) (set s.views id (split_left k)) (split_off k ∷ [])
        ∙ ap (λ (l : List View). l ++ fresh k.core.sizes k.core.given ∷ [])
        (map-set (λ (t : Known). t.core) s.views id (split_left k))

    left : Knows h.words.nodes (split_left k)
    left x two named = h.knows id k seat on x two (omega (arith, split_names x k.core k.core.given))

    left_exact : IsExact h.words.nodes (split_left k)
    left_exact i p e = let g = h.exact id k seat on i p e in
        (g.0, (let m = g.1 in omega (arith, split_names p.0 k.core k.core.given)), g.2)

-- a kept tree of the first list, or of the second
abbrev FirstKeeps : List (ℕ × Tree) → List (ℕ × Tree) → ℕ → Type 0
FirstKeeps a b x = (i : ℕ) × (p : ℕ × Tree) × (get_elem? a i ≡ some p) × (p.0 ≡ x)
    × (kept_tree (a ++ b) x ≡ kept_tree a x)

abbrev SecondKeeps : List (ℕ × Tree) → List (ℕ × Tree) → ℕ → Type 0
SecondKeeps a b x = (kept_tree (a ++ b) x ≡ kept_tree b x) × (kept_tree a x ≡ False)

kept_append : (a b : List (ℕ × Tree)) (x : ℕ) → FirstKeeps a b x ⊎ SecondKeeps a b x
kept_append [] b x = inr (refl, refl)
kept_append (p ∷ ps) b x = go (ℕ_discrete p.0 x) (kept_append ps b x)
  where
    go : Dec (p.0 ≡ x) → FirstKeeps ps b x ⊎ SecondKeeps ps b x → FirstKeeps (p ∷ ps) b x
        ⊎ SecondKeeps (p ∷ ps) b x
    go (yes e) r = inl (0, p, refl, e, rw (eq-eqb p.0 x e) refl)
    go (no n) (inl r) = inl (suc r.0, r.1, r.2, r.3, rw (ne_eqb p.0 x n) r.4)
    go (no n) (inr r) = inr (rw (ne_eqb p.0 x n) r.0, rw (ne_eqb p.0 x n) r.1)

read_after : (x : ℕ) (xs : List ℕ) (v : View) (o : Option Read) → forget xs v.read ≡ o
    → 0 < times x (read_names o) → 0 < times x (read_names v.read)
read_after x xs v None e h = absurd (omega (arith, times-nil x))
read_after x xs v (Some r) e h = let q = forgets xs v.read r e in
    subst (λ (t : Option Read). 0 < times x (read_names t)) (sym q.0) h

joined_names : (x from : ℕ) (v o : View) → 0 < times x (names_of (joined v from o))
    → (0 < times x (names_of v)) ⊎ (0 < times x (names_of o))
joined_names x from v o h = go (dec_le 1 (times x (names_of v)))
    (dec_le 1 (times x (read_names (joined v from o).read)))
  where
    go : Dec (1 ≤ times x (names_of v)) → Dec (1 ≤ times x (read_names (joined v from o).read))
        → (0 < times x (names_of v)) ⊎ (0 < times x (names_of o))
    go (yes a) d = inl a
    go (no n) (yes r) = inl (let q = read_after x (v.held ++ o.held) v (joined v from o).read refl r
        in omega (arith, names_is x v))
    go (no n) (no m) = inr (omega (
      arith,
      names_is x v,
      names_is x o,
      names_is x (joined v from o),
      times-append x v.held o.held,
      times-append x v.retired o.retired,
    ))

-- the tree of one of the names is found among those of the names alone
kept_only : (xs : List ℕ) (ps : List (ℕ × Tree)) (x : ℕ) → 0 < times x xs → kept_tree (only xs ps) x
    ≡ kept_tree ps x
kept_only xs [] x named = refl
kept_only xs (p ∷ ps) x named = go (ℕ_discrete p.0 x) (kept_only xs ps x named)
  where
    go : Dec (p.0 ≡ x) → kept_tree (only xs ps) x ≡ kept_tree ps x → kept_tree (only xs (p ∷ ps)) x
        ≡ kept_tree (p ∷ ps) x
    go (yes e) rest = rw (
      lt-ltb 0 (times p.0 xs) (subst (λ (y : ℕ). 0 < times y xs) (sym e) named),
      eq-eqb p.0 x e,
    ) refl
    go (no n) rest = elim (some_cases (times p.0 xs)) [
      | inl t ↦ rw (t.0, ne_eqb p.0 x n) rest
      | inr t ↦ rw (t.0, ne_eqb p.0 x n) rest
    ]

only_at : (xs : List ℕ) (ps : List (ℕ × Tree)) (i : ℕ) (q : ℕ × Tree) → get_elem? (only xs ps) i
    ≡ some q → (0 < times q.0 xs) × ((j : ℕ) × (get_elem? ps j ≡ some q))
only_at xs [] i q e = absurd (some-ne-none q (sym e))
only_at xs (p ∷ ps) i q e = go (some_cases (times p.0 xs)) i e (λ k h. only_at xs ps k q h)
  where
    later : ((k : ℕ) → get_elem? (only xs ps) k ≡ some q → (0 < times q.0 xs)
        × ((j : ℕ) × (get_elem? ps j ≡ some q))) → (k : ℕ) →
        get_elem? (only xs ps) k ≡ some q → (0 < times q.0 xs)
        × ((j : ℕ) × (get_elem? (p ∷ ps) j ≡ some q))
    later rest k h = let r = rest k h in (r.0, (suc r.1.0, r.1.1))

    first : (k : ℕ) → 0 < times p.0 xs → get_elem? (p ∷ only xs ps) k ≡ some q →
        ((k : ℕ) → get_elem? (only xs ps) k ≡ some q → (0 < times q.0 xs)
        × ((j : ℕ) × (get_elem? ps j ≡ some q))) →
        (0 < times q.0 xs) × ((j : ℕ) × (get_elem? (p ∷ ps) j ≡ some q))
    first zero has h rest = let s = some-injective p q h in
        (subst (λ (t : ℕ × Tree). 0 < times t.0 xs) s has, (0, h))
    first (suc k) has h rest = later rest k h

    go : ((ltb 0 (times p.0 xs) ≡ true) × (0 < times p.0 xs)) ⊎ ((ltb 0 (times p.0 xs) ≡ false)
        × (times p.0 xs ≡ 0)) → (k : ℕ) →
        get_elem? (only xs (p ∷ ps)) k ≡ some q →
        ((k : ℕ) → get_elem? (only xs ps) k ≡ some q → (0 < times q.0 xs)
        × ((j : ℕ) × (get_elem? ps j ≡ some q))) →
        (0 < times q.0 xs) × ((j : ℕ) × (get_elem? (p ∷ ps) j ≡ some q))
    go (inl t) k h rest = first k t.1 (rw t.0 at h) rest
    go (inr t) k h rest = later rest k (rw t.0 at h)

pub append_at : {A : Type 0} (a b : List A) (i : ℕ) (q : A) → get_elem? (a ++ b) i ≡ some q
    → ((j : ℕ) × (get_elem? a j ≡ some q)) ⊎ ((j : ℕ) × (get_elem? b j ≡ some q))
append_at [] b i q e = inr (i, e)
append_at (x ∷ xs) b zero q e = inl (0, e)
append_at (x ∷ xs) b (suc i) q e = ⊎_elim (λ r. inl (suc r.0, r.1)) (λ r. inr r)
    (append_at xs b i q e)

both_exact : (nodes : List ℕ) (k o : Known) → IsExact nodes k → IsExact nodes o
    → IsExact nodes (both k o)
both_exact nodes k o mine theirs i p e =
    let r = only_at (names_of (joined k.core o.core.number o.core)) (k.trees ++ o.trees) i p e in
    let is : (2 ≤ p.0) × IsTree nodes p.1 p.0 =
    ⊎_elim (λ (q : (j : ℕ) × (get_elem? k.trees j ≡ some p)). let m = mine q.0 p q.1 in (m.0, m.2))
    (λ (q : (j : ℕ) × (get_elem? o.trees j ≡ some p)). let m = theirs q.0 p q.1 in
    (m.0, m.2)) (append_at k.trees o.trees r.1.0 p r.1.1) in
    (is.0, r.0, is.1)

both_knows : (nodes : List ℕ) (k o : Known) → Knows nodes k → IsExact nodes k → Knows nodes o
    → Knows nodes (both k o)
both_knows nodes k o mine exact theirs x two named = subst (λ (t : Tree). IsTree nodes t x)
    (sym found) (⊎_elim
    (λ (r : FirstKeeps k.trees o.trees x).
    let n : 0 < times x (names_of k.core) = subst (λ (y : ℕ). 0 < times y (names_of k.core)) r.3
    (exact r.0 r.1 r.2).1 in
    subst (λ (t : Tree). IsTree nodes t x) (tree_else k.trees x two ∙ sym r.4) (mine x two n))
    (λ (r : SecondKeeps k.trees o.trees x). ⊎_elim
    (λ (a : 0 < times x (names_of k.core)). absurd (let f : IsTree nodes False x =
    subst (λ (t : Tree). IsTree nodes t x) (tree_else k.trees x two ∙ r.1) (mine x two a) in
    omega arith))
    (λ (b : 0 < times x (names_of o.core)). subst (λ (t : Tree). IsTree nodes t x)
    (tree_else o.trees x two ∙ sym r.0) (theirs x two b))
    (joined_names x o.core.number k.core o.core named))
    (kept_append k.trees o.trees x))
  where
    found : tree_of (both k o) x ≡ kept_tree (k.trees ++ o.trees) x
    found = tree_else (only (names_of (joined k.core o.core.number o.core)) (k.trees ++ o.trees)) x
        two ∙ kept_only (names_of (joined k.core o.core.number o.core)) (k.trees ++ o.trees) x named

pub joins_allowed : {S : Type 0} (z : Sizes) (id other : ℕ) (k o : Known) → k.core.active ≡ true
    → MayTake k.core o.core →
    length (joined k.core o.core.number o.core).held ≤ 2 ^ 40
    → Joins (Held {S = S} z) id k other o (both k o) nobody
joins_allowed {S} z id other k o on take room s h seat apart there = record {
  words = h.words;
  laid = h.laid;
  lawful = subst (λ (vs : List View). Lawful z h.words (homes_of s.homes) vs) (sym views) all;
  knows = λ j u e act. ⊎_elim
      (λ (p : (j ≡ other) × (nobody ≡ u)). absurd (let q : false ≡ true =
      ap (λ (t : Known). t.core.active) p.1 ∙ act in cc))
      (λ (p : (j ≢ other) × (get_elem? (set s.views id (both k o)) j ≡ some u)). ⊎_elim
      (λ (q : (j ≡ id) × (both k o ≡ u)). subst (λ (t : Known). Knows h.words.nodes t) q.1
      (both_knows h.words.nodes k o (h.knows id k seat on) (h.exact id k seat on)
      (h.knows other o theirs take.2)))
      (λ (q : (j ≢ id) × (get_elem? s.views j ≡ some u)). h.knows j u q.1 act)
      (at_set s.views id j (both k o) u p.1))
      (at_set (set s.views id (both k o)) other j nobody u e);
  exact = λ j u e act. ⊎_elim
      (λ (p : (j ≡ other) × (nobody ≡ u)). absurd (let q : false ≡ true =
      ap (λ (t : Known). t.core.active) p.1 ∙ act in cc))
      (λ (p : (j ≢ other) × (get_elem? (set s.views id (both k o)) j ≡ some u)). ⊎_elim
      (λ (q : (j ≡ id) × (both k o ≡ u)). subst (λ (t : Known). IsExact h.words.nodes t) q.1
      (both_exact h.words.nodes k o (h.exact id k seat on) (h.exact other o theirs take.2)))
      (λ (q : (j ≢ id) × (get_elem? s.views j ≡ some u)). h.exact j u q.1 act)
      (at_set s.views id j (both k o) u p.1))
      (at_set (set s.views id (both k o)) other j nobody u e);
  copies = λ j u ws e has. absurd (⊎_elim
      (λ (p : (j ≡ other) × (nobody ≡ u)). let c : None ≡ Some ws = ap (λ (t : Known). t.copy) p.1
      ∙ has in cc)
      (λ (p : (j ≢ other) × (get_elem? (set s.views id (both k o)) j ≡ some u)). ⊎_elim
      (λ (q : (j ≡ id) × (both k o ≡ u)). let c : None ≡ Some ws = ap (λ (t : Known). t.copy) q.1
      ∙ has in cc)
      (λ (q : (j ≢ id) × (get_elem? s.views j ≡ some u)). no_copy z s h id j k u ws seat on q.0 q.1
      has)
      (at_set s.views id j (both k o) u p.1))
      (at_set (set s.views id (both k o)) other j nobody u e));
}
  where
    theirs : get_elem? s.views other ≡ some o
    theirs = sym (set_else s.views id other (both k o) apart) ∙ there

    at : get_elem? (cores s.views) id ≡ some k.core
    at = at_map (λ (t : Known). t.core) s.views id k seat

    other_at : get_elem? (cores s.views) other ≡ some o.core
    other_at = at_map (λ (t : Known). t.core) s.views other o theirs

    number : o.core.number ≡ other
    number = (h.lawful.views other o.core other_at take.2).number

    -- both have the sizes of the table
    few : length k.core.retired + length o.core.retired ≤ 2 * announced_words k.core.sizes
    few =
        let mine = ap announced_words (h.lawful.views id k.core at on).sizes in
        let others = ap announced_words (h.lawful.views other o.core other_at take.2).sizes in
        let together = take.4 in omega arith

    may : MayJoin k.core o.core.number o.core
    may = (
      take.0,
      (λ e. apart (sym number ∙ e ∙ (h.lawful.views id k.core at on).number)),
      take.1,
      take.2,
      take.3,
      few,
    )

    law : Lawful z h.words (homes_of s.homes) (join (cores s.views) id k.core o.core.number)
    law =
        join_keeps z h.words (homes_of s.homes) (cores s.views) id o.core.number k.core o.core
        h.lawful at on
        (subst (λ (j : ℕ). get_elem? (cores s.views) j ≡ some o.core) (sym number) other_at) may
        room

    view_is : view_at (cores s.views) o.core.number ≡ o.core
    view_is = ap (λ (j : ℕ). view_at (cores s.views) j) number
        ∙ at_get (cores s.views) other o.core unused other_at

    all : Lawful z h.words (homes_of s.homes)
        (set (set (cores s.views) id (joined k.core o.core.number o.core)) other spent)
    all = subst (λ (t : View × ℕ). Lawful z h.words (homes_of s.homes)
        (set (set (cores s.views) id (joined k.core o.core.number t.0)) t.1 spent))
        (λ i. (view_is i, number i)) law

    views : cores (set (set s.views id (both k o)) other nobody)
        ≡ set (set (cores s.views) id (joined k.core o.core.number o.core)) other spent
    views = map-set (λ (t : Known). t.core) (set s.views id (both k o)) other nobody
        ∙ ap (λ (l : List View). set l other spent) (map-set (λ (t : Known). t.core) s.views id
        (both k o))

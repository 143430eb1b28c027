-- In each lawful state a worker can know the trees of all that it names.
use Rattle.std.proofs.Common.{◌≡◌, ℕ, zero, suc, ◌+◌, ◌*◌, ◌^◌, ◌<◌, ◌≤◌, List, [], ◌∷◌, ◌++◌}
use Rattle.std.proofs.Common.{length, true, Option, Some, None, eq-eqb, ne_eqb, refl, sym, ap}
use Rattle.std.proofs.Common.{subst, ◌∙◌, arith, inl, inr}
use native.Mathlib.Decide.{ℕ_discrete, dec_le}
use mathlib.Core.Option.{some, some-injective, some-ne-none}
use lib.ListN.{get_elem?}
use Rattle.eqc_tree.specs.Tree.{Tree, value, IsCanonical}
use Rattle.eqc_tree.specs.Operation.{operate}
use Rattle.eqc_tree.specs.declared.operation.Op.{Op}
use Rattle.eqc_tree.proofs.Tags.{tag_of-injective}
use Rattle.eqc_core.specs.declared.sizes.Sizes.{Sizes}
use Rattle.eqc_core.specs.declared.phase.Phase.{Phase}
use Rattle.eqc_core.specs.declared.phase.Phase.TheVariants.{Idle, Seen, Announced, Confirmed}
use Rattle.eqc_core.specs.declared.phase.Phase.TheVariants.{Missed}
use Rattle.eqc_core.specs.View.{View, Read}
use Rattle.eqc_core.specs.Words.{Words, announced_words, times, children, first_of, second_of}
use Rattle.eqc_core.specs.Words.{result_of}
use Rattle.eqc_core.specs.Tables.{Homes, IsName, IsTable, tabled}
use Rattle.eqc_core.specs.Trees.{IsTree, IsRight, IsFilled}
use Rattle.eqc_core.specs.Lawful.{IsNamed as IsPlaced, Lawful}
use Rattle.eqc_core.specs.Facts.{AreTabled, HaveTrees}
use Rattle.eqc_core.proofs.Names.{times-same, times-other, times-append, times-nil}
use Rattle.eqc_core.proofs.Known.{are_tabled}
use Rattle.eqc_core.proofs.Tables.{table_tabled}
use Rattle.eqc_core.proofs.Trees.{have_trees, is_tree_one}
use Rattle.eqc_core.proofs.Claiming.{draft_is}
use Rattle.eqc_guard.specs.Known.{Known, Knows, KeepsCopy, kept_tree, tree_in, tree_of, names_of}
use Rattle.eqc_guard.specs.Known.{confirmed_name, confirmed_names, read_names, IsHeld, IsNamed}
use Rattle.eqc_guard.specs.Known.{IsCopy, IsKnown}
use Rattle.eqc_guard.specs.Telling.{IsResult, IsRightHere}
use Rattle.eqc_guard.proofs.Numbers.{out_few, out_given}

pub names_is : (x : ℕ) (v : View) → times x (names_of v) ≡ times x v.held
    + (times x v.retired + (times x (confirmed_names v.phases) + times x (read_names v.read)))
unfolding names_of
names_is x v =
    omega (
      arith,
      times-append x v.held (v.retired ++ (confirmed_names v.phases ++ read_names v.read)),
      times-append x v.retired (confirmed_names v.phases ++ read_names v.read),
      times-append x (confirmed_names v.phases) (read_names v.read),
    )

confirmed_is : (x : ℕ) (p : Phase) → 0 < times x (confirmed_name p) → p ≡ Confirmed x
confirmed_is x Idle h = absurd (omega (arith, times-nil x))
confirmed_is x (Seen c word) h = absurd (omega (arith, times-nil x))
confirmed_is x (Announced c word) h = absurd (omega (arith, times-nil x))
confirmed_is x (Missed y) h = absurd (omega (arith, times-nil x))
confirmed_is x (Confirmed y) h = go (ℕ_discrete y x)
  where
    go : Dec (y ≡ x) → Confirmed y ≡ Confirmed x
    go (yes e) = ap Confirmed e
    go (no n) = absurd (omega (arith, times-nil x, times-other x y [] n))

-- a confirmed name is that of some phase
confirmed_at : (x : ℕ) (ps : List Phase) → 0 < times x (confirmed_names ps) → (k : ℕ)
    × (get_elem? ps k ≡ some (Confirmed x))
confirmed_at x [] h = absurd (omega (arith, times-nil x))
confirmed_at x (p ∷ ps) h = go (dec_le 1 (times x (confirmed_name p))) (λ rest. confirmed_at x ps
    rest)
  where
    go : Dec (1 ≤ times x (confirmed_name p)) → (0 < times x (confirmed_names ps) → (k : ℕ)
        × (get_elem? ps k ≡ some (Confirmed x))) → (k : ℕ)
        × (get_elem? (p ∷ ps) k ≡ some (Confirmed x))
    go (yes here) later = (0, ap some (confirmed_is x p here))
    go (no n) later = let r =
        later (omega (arith, times-append x (confirmed_name p) (confirmed_names ps))) in
        (suc r.0, r.1)

-- and a confirmed phase's name is among them
pub confirmed_among : (x k : ℕ) (ps : List Phase) → get_elem? ps k ≡ some (Confirmed x)
    → 0 < times x (confirmed_names ps)
confirmed_among x k [] e = absurd (some-ne-none (Confirmed x) (sym e))
confirmed_among x zero (p ∷ ps) e =
    let here : times x (confirmed_name p) ≡ times x (x ∷ []) =
    ap (λ (q : Phase). times x (confirmed_name q)) (some-injective p (Confirmed x) e) in
    omega (arith, times-append x (confirmed_name p) (confirmed_names ps), times-same x x [] refl)
confirmed_among x (suc k) (p ∷ ps) e =
    omega (arith, times-append x (confirmed_name p) (confirmed_names ps), confirmed_among x k ps e)

read_is : (x : ℕ) (o : Option Read) → 0 < times x (read_names o) → (r : Read) × (o ≡ Some r)
    × (0 < times x (children r.word))
read_is x None h = absurd (omega (arith, times-nil x))
read_is x (Some r) h = (r, refl, h)

-- what is named is tabled
pub named_tabled : (z : Sizes) (w : Words) (hs : Homes) (vs : List View) (id x : ℕ) (v : View)
    → Lawful z w hs vs → get_elem? vs id ≡ some v →
    v.active ≡ true → 2 ≤ x → 0 < times x (names_of v) → 0 < tabled hs vs x
named_tabled z w hs vs id x v law at on two named =
    go (dec_le 1 (times x v.held)) (dec_le 1 (times x v.retired))
    (dec_le 1 (times x (confirmed_names v.phases))) (dec_le 1 (times x (read_names v.read)))
  where
    all : AreTabled w hs vs
    all = are_tabled z w hs vs law

    go : Dec (1 ≤ times x v.held) → Dec (1 ≤ times x v.retired)
        → Dec (1 ≤ times x (confirmed_names v.phases)) → Dec (1 ≤ times x (read_names v.read))
        → 0 < tabled hs vs x
    go (yes h) q r s = all.held id x v at h
    go (no n) (yes h) r s = all.retired id x v at h
    go (no n) (no m) (yes h) s = let k = confirmed_at x v.phases h in
        all.confirmed id k.0 x v at on k.1
    go (no n) (no m) (no k) (yes h) = let r = read_is x v.read h in
        all.known id x v at on two (inr (inr (inr r)))
    go (no n) (no m) (no k) (no l) = absurd (omega (arith, names_is x v))

pub tree_else : (ps : List (ℕ × Tree)) (x : ℕ) → 2 ≤ x → tree_in ps x ≡ kept_tree ps x
tree_else ps x two = rw (ne_eqb x 0 (λ e. omega arith), ne_eqb x 1 (λ e. omega arith)) refl

-- the trees of a list of names
abbrev Learnt : List ℕ → List ℕ → List (ℕ × Tree) → Type 0
Learnt nodes xs ps = ((x : ℕ) → 2 ≤ x → 0 < times x xs → IsTree nodes (kept_tree ps x) x)
    × ((i : ℕ) (p : ℕ × Tree) → get_elem? ps i ≡ some p → (2 ≤ p.0) × (0 < times p.0 xs)
    × IsTree nodes p.1 p.0)

learn_list : (nodes : List ℕ) (xs : List ℕ) → ((x : ℕ) → 2 ≤ x → 0 < times x xs → (t : Tree)
    × IsTree nodes t x) → (ps : List (ℕ × Tree)) × Learnt nodes xs ps
learn_list nodes [] there = (
  [],
  (
    (λ x two h. absurd (omega (arith, times-nil x))),
    λ i p e. absurd (some-ne-none p (sym e)),
  ),
)
learn_list nodes (y ∷ xs) there =
    go (dec_le 2 y) (learn_list nodes xs (λ x two h. there x two (later x (ℕ_discrete y x) h)))
  where
    later : (x : ℕ) → Dec (y ≡ x) → 0 < times x xs → 0 < times x (y ∷ xs)
    later x (yes e) h = omega (arith, times-same x y xs e)
    later x (no n) h = omega (arith, times-other x y xs n)

    here : (x : ℕ) (t : Tree) (ps : List (ℕ × Tree)) → IsTree nodes t y
        → (0 < times x xs → IsTree nodes (kept_tree ps x) x) →
        0 < times x (y ∷ xs) → Dec (y ≡ x) → IsTree nodes (kept_tree ((y, t) ∷ ps) x) x
    here x t ps is rest h (yes e) = rw (eq-eqb y x e) (subst (λ k. IsTree nodes t k) e is)
    here x t ps is rest h (no n) = rw (ne_eqb y x n) (rest (omega (arith, times-other x y xs n)))

    exact : (t : Tree) (ps : List (ℕ × Tree)) → 2 ≤ y → IsTree nodes t y →
        ((i : ℕ) (p : ℕ × Tree) → get_elem? ps i ≡ some p → (2 ≤ p.0) × (0 < times p.0 xs)
        × IsTree nodes p.1 p.0) → (i : ℕ) (p : ℕ × Tree) →
        get_elem? ((y, t) ∷ ps) i ≡ some p → (2 ≤ p.0) × (0 < times p.0 (y ∷ xs))
        × IsTree nodes p.1 p.0
    exact t ps two is rest zero p e = let q : (y, t) ≡ p = some-injective (y, t) p e in
        subst (λ (k : ℕ × Tree). (2 ≤ k.0) × (0 < times k.0 (y ∷ xs)) × IsTree nodes k.1 k.0) q
        (two, omega (arith, times-same y y xs refl), is)
    exact t ps two is rest (suc i) p e = let r = rest i p e in
        (r.0, later p.0 (ℕ_discrete y p.0) r.1, r.2)

    go : Dec (2 ≤ y) → ((ps : List (ℕ × Tree)) × Learnt nodes xs ps) → (ps : List (ℕ × Tree))
        × Learnt nodes (y ∷ xs) ps
    go (yes two) r = let t = there y two (omega (arith, times-same y y xs refl)) in (
      (y, t.0) ∷ r.0,
      (
        (λ x k h. here x t.0 r.0 t.1 (r.1.0 x k) h (ℕ_discrete y x)),
        exact t.0 r.0 two t.1 r.1.1,
      ),
    )
    go (no small) r = (
      r.0,
      (
        (λ x two h. r.1.0 x two
            (omega (arith, times-other x y xs (λ e. omega arith)))),
        λ i p e. let q = r.1.1 i p e in
            (q.0, later p.0 (ℕ_discrete y p.0) q.1, q.2),
      ),
    )

-- the trees of all that a view names
pub learn : (z : Sizes) (w : Words) (hs : Homes) (vs : List View) (id : ℕ) (v : View)
    → Lawful z w hs vs → get_elem? vs id ≡ some v → v.active ≡ true
    → (ps : List (ℕ × Tree)) × ((x : ℕ) → 2 ≤ x → 0 < times x (names_of v)
    → IsTree w.nodes (tree_in ps x) x) × ((i : ℕ) (p : ℕ × Tree) →
    get_elem? ps i ≡ some p → (2 ≤ p.0) × (0 < times p.0 (names_of v)) × IsTree w.nodes p.1 p.0)
learn z w hs vs id v law at on =
    let l = learn_list w.nodes (names_of v) (λ x two h. let t =
    (have_trees z w hs vs law).tree x (inr (named_tabled z w hs vs id x v law at on two h)) in
    (t.0, t.1)) in (
      l.0,
      (λ x two h. subst (λ t. IsTree w.nodes t x) (sym (tree_else l.0 x two)) (l.1.0 x two h)),
      l.1.1,
    )

constant_tree : (nodes : List ℕ) (k : Known) (x : ℕ) → x < 2 → Dec (x ≡ 0) → Dec (x ≡ 1)
    → IsTree nodes (tree_of k x) x
constant_tree nodes k x lt (yes e) d = rw (eq-eqb x 0 e) e
constant_tree nodes k x lt (no n) (yes e) = rw (ne_eqb x 0 n, eq-eqb x 1 e) e
constant_tree nodes k x lt (no n) (no m) = absurd (omega arith)

pub held_named : (v : View) (x : ℕ) → 0 < times x v.held → 0 < times x (names_of v)
held_named v x h = omega (arith, names_is x v)

pub confirmed_named : (v : View) (k x : ℕ) → get_elem? v.phases k ≡ some (Confirmed x)
    → 0 < times x (names_of v)
confirmed_named v k x e = omega (arith, names_is x v, confirmed_among x k v.phases e)

-- what is known of a named name or a constant
pub named_tree : (nodes : List ℕ) (k : Known) (x : ℕ) → Knows nodes k → IsNamed k.core x
    → IsTree nodes (tree_of k x) x
named_tree nodes k x knows (inl lt) = constant_tree nodes k x lt (ℕ_discrete x 0) (ℕ_discrete x 1)
named_tree nodes k x knows (inr h) = go (dec_le 2 x)
  where
    go : Dec (2 ≤ x) → IsTree nodes (tree_of k x) x
    go (yes two) = knows x two h
    go (no n) = constant_tree nodes k x (omega arith) (ℕ_discrete x 0) (ℕ_discrete x 1)

pub held_tree : (nodes : List ℕ) (k : Known) (x : ℕ) → Knows nodes k → IsHeld k.core x
    → IsTree nodes (tree_of k x) x
held_tree nodes k x knows (inl lt) = named_tree nodes k x knows (inl lt)
held_tree nodes k x knows (inr h) = named_tree nodes k x knows (inr (held_named k.core x h))

-- a filled cell, told in the trees that a worker knows
pub filled_result : (nodes : List ℕ) (k : Known) (word : ℕ) (t : Tree) → Knows nodes k
    → IsFilled nodes word → IsTree nodes t (result_of word) → IsResult k word t
filled_result nodes k word t knows f is first second op tag a =
    let o : op ≡ f.operation = tag_of-injective op f.operation (sym tag ∙ f.tag) in
    let p = is_tree_one nodes (tree_of k (first_of word)) f.first (first_of word)
    (held_tree nodes k (first_of word) knows first) f.first_is in
    let q = is_tree_one nodes (tree_of k (second_of word)) f.second (second_of word)
    (held_tree nodes k (second_of word) knows second) f.second_is in
    let r = is_tree_one nodes t f.result (result_of word) is f.result_is in
    ap (λ (o : Op). operate o (value (tree_of k (first_of word)) a)
    (value (tree_of k (second_of word)) a)) o
    ∙ (ap (λ (s : Tree). operate f.operation (value s a) (value (tree_of k (second_of word)) a)) p
    ∙ (ap (λ (s : Tree). operate f.operation (value f.first a) (value s a)) q
    ∙ (f.right a ∙ ap (λ (s : Tree). value s a) (sym r))))

-- a word is right where the worker knows it of the trees
pub known_right : (nodes : List ℕ) (k : Known) (word : ℕ) → Knows nodes k
    → IsHeld k.core (first_of word) → IsHeld k.core (second_of word) →
    IsHeld k.core (result_of word) → IsRightHere k word → IsRight nodes word
known_right nodes k word knows first second result right = inr (record {
  operation = right.operation;
  tag = right.tag;
  first = tree_of k (first_of word);
  second = tree_of k (second_of word);
  result = tree_of k (result_of word);
  first_is = held_tree nodes k (first_of word) knows first;
  second_is = held_tree nodes k (second_of word) knows second;
  result_is = held_tree nodes k (result_of word) knows result;
  right = right.right;
})

-- what a worker knows in a lawful state
pub is_known : (z : Sizes) (w : Words) (hs : Homes) (vs : List View) (id : ℕ) (k : Known)
    → Lawful z w hs vs → get_elem? vs id ≡ some k.core →
    k.core.active ≡ true → Knows w.nodes k → ((ws : List ℕ) → k.copy ≡ Some ws → IsCopy k ws)
    → IsKnown k
is_known z w hs vs id k law at on knows copy = record {
  state = copy;
  place = let f = law.views id k.core at on in subst (λ (y : Sizes). k.core.position
      < announced_words y) (sym f.sizes) f.place;
  noted = (law.views id k.core at on).noted;
  phases = λ j p e. let f = law.views id k.core at on in subst (λ (y : Sizes). IsPlaced y p)
      (sym f.sizes) (f.named j p e);
  draft = λ d e. let g = draft_is z w hs vs id k.core law at on d e in
      (g.0, subst (λ (y : Sizes). d < y.names) (sym (law.views id k.core at on).sizes) g.1);
  hand = (law.views id k.core at on).hand;
  entries = λ h i e is there.
      let mine : IsTable hs vs h.stripe h.entries = inr (id, k.core, h, at, is, refl, refl) in
      let n = law.tables.named e.1 ((are_tabled z w hs vs law).entries h.stripe h.entries i e mine
      there) in (
        n.0,
        subst (λ (y : Sizes). e.1 < y.names) (sym (law.views id k.core at on).sizes) n.1,
        (law.tables.entries h.stripe h.entries mine i e there).1,
      );
  once = λ h x is. let le = table_tabled hs vs h.stripe h.entries x (inr (
    id,
    k.core,
    h,
    at,
    is,
    refl,
    refl,
  )) in let o = law.tables.once x in omega arith;
  few = subst (λ (y : Sizes). length k.core.out < y.workers) (sym (law.views id k.core at on).sizes)
      (out_few z w hs vs id k.core law at on);
  given = λ e. subst (λ (y : Sizes). (length k.core.out < k.core.given)
      × (k.core.given ≤ y.workers)) (sym (law.views id k.core at on).sizes) (out_given z w hs vs id
      k.core law at on e);
  word = let f = law.views id k.core at on in let e = f.phases in let some_words =
      law.sized.some_announcements in omega arith;
  each = let f = law.views id k.core at on in f.phases
      ∙ sym (ap (λ (y : Sizes). y.announcements) f.sizes);
  retired = let f = law.views id k.core at on in subst (λ (y : Sizes). length k.core.retired
      ≤ 2 * announced_words y) (sym f.sizes) f.few;
  read = λ r e. ((law.views id k.core at on).read r e).held_still;
  slots = λ x h. (law.views id k.core at on).slots x (omega arith);
  limit = subst (λ (y : Sizes). y.names ≤ 2 ^ 20) (sym (law.views id k.core at on).sizes)
      law.sized.few_names;
  below = λ x two named. subst (λ (y : Sizes). x < y.names) (sym (law.views id k.core at on).sizes)
      (law.tables.named x (named_tabled z w hs vs id x k.core law at on two named)).1;
  canonical = λ x named. let t = trees.tree x (name x named) in subst (λ (s : Tree). IsCanonical s)
      (is_tree_one w.nodes t.0 (tree_of k x) x t.1 (named_tree w.nodes k x knows named)) t.2;
  one = λ x y a b e. trees.one_name x y (tree_of k x) (name x a) (name y b) (named_tree w.nodes k x
      knows a) (subst (λ (t : Tree). IsTree w.nodes t y) (sym e) (named_tree w.nodes k y knows b));
}
  where
    trees : HaveTrees w hs vs
    trees = have_trees z w hs vs law

    name : (x : ℕ) → IsNamed k.core x → IsName hs vs x
    name x (inl lt) = inl lt
    name x (inr h) = go (dec_le 2 x)
      where
        go : Dec (2 ≤ x) → IsName hs vs x
        go (yes two) = inr (named_tabled z w hs vs id x k.core law at on two h)
        go (no n) = inl (omega arith)

-- a copy that two steps keep
pub keeps_on : (a b c : Known) → KeepsCopy a b → KeepsCopy b c → KeepsCopy a c
keeps_on a b c first second ws e = let r = first ws e in second r.0 r.1

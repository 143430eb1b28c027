-- The trees of names: there is one for each tabled slot, one only, and it stays where the node of a
-- slot that no table has is written.
use Rattle.std.proofs.Common.{◌≡◌, ◌⊎◌, ℕ, zero, suc, ◌+◌, ◌^◌, ◌<◌, ◌≤◌, List, set, get_or, refl}
use Rattle.std.proofs.Common.{sym, ap, subst, ◌∙◌, arith, inl, inr, get_or-set_other}
use Rattle.std.proofs.lemmas.Bool.{le-ltb}
use native.Mathlib.Decide.{ℕ_discrete, dec_le}
use Rattle.eqc_tree.specs.Tree.{Tree, False, True, Node, StartsAbove, IsOrdered, IsReduced}
use Rattle.eqc_tree.specs.Tree.{IsCanonical}
use Rattle.eqc_core.specs.declared.sizes.Sizes.{Sizes}
use Rattle.eqc_core.specs.View.{View}
use Rattle.eqc_core.specs.Words.{Words, variable_of, low_of, high_of}
use Rattle.eqc_core.specs.Tables.{IsName, Homes, tabled}
use Rattle.eqc_core.specs.Trees.{IsTree, variable_at}
use Rattle.eqc_core.specs.Lawful.{Lawful}
use Rattle.eqc_core.specs.Facts.{HaveTrees}
use Rattle.eqc_core.proofs.Names.{names_low, names_high}
use Rattle.eqc_core.proofs.Tables.{child_tabled}

-- one tree at most
pub is_tree_one : (nodes : List ℕ) (s t : Tree) (x : ℕ) → IsTree nodes s x → IsTree nodes t x
    → s ≡ t
is_tree_one nodes False False x a b = refl
is_tree_one nodes False True x a b = absurd (omega arith)
is_tree_one nodes False (Node v l h) x a b = absurd (let two = b.0 in omega arith)
is_tree_one nodes True False x a b = absurd (omega arith)
is_tree_one nodes True True x a b = refl
is_tree_one nodes True (Node v l h) x a b = absurd (let two = b.0 in omega arith)
is_tree_one nodes (Node v l h) False x a b = absurd (let two = a.0 in omega arith)
is_tree_one nodes (Node v l h) True x a b = absurd (let two = a.0 in omega arith)
is_tree_one nodes (Node v l h) (Node w m k) x a b =
    let p : v ≡ w = sym a.1 ∙ b.1 in
    let q = is_tree_one nodes l m (low_of (get_or nodes x 0)) a.2 b.2 in
    let r = is_tree_one nodes h k (high_of (get_or nodes x 0)) a.3 b.3 in
    λ i. Node (p i) (q i) (r i)

-- over two rows of nodes that agree on the names of a set which its nodes' children do not leave
module _ (T : ℕ → Type 0) (nodes nodes' : List ℕ) (same : (x : ℕ) → T x → get_or nodes' x 0
    ≡ get_or nodes x 0)
    (lows : (x : ℕ) → T x → (low_of (get_or nodes x 0) < 2) ⊎ T (low_of (get_or nodes x 0)))
    (highs : (x : ℕ) → T x → (high_of (get_or nodes x 0) < 2) ⊎ T (high_of (get_or nodes x 0)))
  where
    pub is_tree_kept : (t : Tree) (x : ℕ) → (x < 2) ⊎ T x → IsTree nodes t x → IsTree nodes' t x
    is_tree_kept False x in_it is = is
    is_tree_kept True x in_it is = is
    is_tree_kept (Node v l h) x (inl lt) is = absurd (let two = is.0 in omega arith)
    is_tree_kept (Node v l h) x (inr t) is =
        let e = same x t in
        let a = is_tree_kept l (low_of (get_or nodes x 0)) (lows x t) is.2 in
        let b = is_tree_kept h (high_of (get_or nodes x 0)) (highs x t) is.3 in (
          is.0,
          ap variable_of e ∙ is.1,
          subst (λ (n : ℕ). IsTree nodes' l (low_of n)) (sym e) a,
          subst (λ (n : ℕ). IsTree nodes' h (high_of n)) (sym e) b,
        )

pub low_named : (z : Sizes) (w : Words) (hs : Homes) (vs : List View) (x : ℕ) → Lawful z w hs vs
    → 0 < tabled hs vs x → IsName hs vs (low_of (get_or w.nodes x 0))
low_named z w hs vs x law t = go (dec_le 2 (low_of (get_or w.nodes x 0)))
  where
    go : Dec (2 ≤ low_of (get_or w.nodes x 0)) → IsName hs vs (low_of (get_or w.nodes x 0))
    go (yes two) = inr (child_tabled z w hs vs law x (low_of (get_or w.nodes x 0)) t two
        (names_low (get_or w.nodes x 0)))
    go (no n) = inl (omega arith)

pub high_named : (z : Sizes) (w : Words) (hs : Homes) (vs : List View) (x : ℕ) → Lawful z w hs vs
    → 0 < tabled hs vs x → IsName hs vs (high_of (get_or w.nodes x 0))
high_named z w hs vs x law t = go (dec_le 2 (high_of (get_or w.nodes x 0)))
  where
    go : Dec (2 ≤ high_of (get_or w.nodes x 0)) → IsName hs vs (high_of (get_or w.nodes x 0))
    go (yes two) = inr (child_tabled z w hs vs law x (high_of (get_or w.nodes x 0)) t two
        (names_high (get_or w.nodes x 0)))
    go (no n) = inl (omega arith)

-- the tree of each constant and tabled name stays, where the node of a slot that is not tabled is
-- written
pub is_tree_stays : (z : Sizes) (w : Words) (hs : Homes) (vs : List View) (d word : ℕ)
    → Lawful z w hs vs → tabled hs vs d ≡ 0
    → (t : Tree) (x : ℕ) → IsName hs vs x → IsTree w.nodes t x → IsTree (set w.nodes d word) t x
is_tree_stays z w hs vs d word law free =
    is_tree_kept (λ x. 0 < tabled hs vs x) w.nodes (set w.nodes d word)
    (λ x t. get_or-set_other w.nodes d x word 0 (λ e. let q : tabled hs vs x ≡ 0 =
    subst (λ (k : ℕ). tabled hs vs k ≡ 0) (sym e) free in omega arith))
    (λ x t. low_named z w hs vs x law t)
    (λ x t. high_named z w hs vs x law t)

pub word_is : (n m : ℕ) → variable_of n ≡ variable_of m → low_of n ≡ low_of m
    → high_of n ≡ high_of m → n ≡ m
unfolding variable_of low_of high_of
word_is n m a b c = omega arith

-- two slots with one tree are one
pub one_slot : (z : Sizes) (w : Words) (hs : Homes) (vs : List View) (t : Tree) (x y : ℕ)
    → Lawful z w hs vs → IsName hs vs x → IsName hs vs y → IsTree w.nodes t x → IsTree w.nodes t y
    → x ≡ y
one_slot z w hs vs False x y law p q a b = a ∙ sym b
one_slot z w hs vs True x y law p q a b = a ∙ sym b
one_slot z w hs vs (Node v l h) x y law (inl lt) q a b = absurd (let two = a.0 in omega arith)
one_slot z w hs vs (Node v l h) x y law p (inl lt) a b = absurd (let two = b.0 in omega arith)
one_slot z w hs vs (Node v l h) x y law (inr p) (inr q) a b =
    let n : ℕ = get_or w.nodes x 0 in
    let m : ℕ = get_or w.nodes y 0 in
    let c = one_slot z w hs vs l (low_of n) (low_of m) law (low_named z w hs vs x law p)
    (low_named z w hs vs y law q) a.2 b.2 in
    let d = one_slot z w hs vs h (high_of n) (high_of m) law (high_named z w hs vs x law p)
    (high_named z w hs vs y law q) a.3 b.3 in
    law.tables.unique x y p q (word_is n m (a.1 ∙ sym b.1) c d)

-- there is a tree
pub tree_of : (z : Sizes) (w : Words) (hs : Homes) (vs : List View) (fuel x : ℕ) → Lawful z w hs vs
    → IsName hs vs x → 2 ^ 16 < variable_at w.nodes x + fuel → (t : Tree) × IsTree w.nodes t x
tree_of z w hs vs fuel x law (inl lt) big = constant (ℕ_discrete x 0)
  where
    constant : Dec (x ≡ 0) → (t : Tree) × IsTree w.nodes t x
    constant (yes e) = (False, e)
    constant (no n) = (True, omega arith)
tree_of z w hs vs zero x law (inr t) big =
    absurd
    (let s = law.tables.shaped x t in
    let f = s.few in
    let e : variable_at w.nodes x ≡ variable_of (get_or w.nodes x 0) =
    rw (le-ltb x 2 (law.tables.named x t).0) refl in
    let k = law.sized.few_variables in
    omega arith)
tree_of z w hs vs (suc fuel) x law (inr t) big =
    let s = law.tables.shaped x t in
    let n : ℕ = get_or w.nodes x 0 in
    let two = (law.tables.named x t).0 in
    let e : variable_at w.nodes x ≡ variable_of n = rw (le-ltb x 2 two) refl in
    let al = s.above_low in
    let ah = s.above_high in
    let l = tree_of z w hs vs fuel (low_of n) law (low_named z w hs vs x law t) (omega arith) in
    let h = tree_of z w hs vs fuel (high_of n) law (high_named z w hs vs x law t) (omega arith) in
    (Node (variable_of n) l.0 h.0, (two, refl, l.1, h.1))

pub tree_there : (z : Sizes) (w : Words) (hs : Homes) (vs : List View) (x : ℕ) → Lawful z w hs vs
    → IsName hs vs x → (t : Tree) × IsTree w.nodes t x
tree_there z w hs vs x law is = tree_of z w hs vs (2 ^ 16 + 1) x law is (omega arith)

-- the trees of slots are ordered and reduced
starts_above : (nodes : List ℕ) (v x : ℕ) (t : Tree) → IsTree nodes t x → v < variable_at nodes x
    → StartsAbove v t
starts_above nodes v x False is lt = tt
starts_above nodes v x True is lt = tt
starts_above nodes v x (Node w l h) is lt = let e : variable_at nodes x
    ≡ variable_of (get_or nodes x 0) = rw (le-ltb x 2 is.0) refl in let f = is.1 in omega arith

ordered : (z : Sizes) (w : Words) (hs : Homes) (vs : List View) (t : Tree) (x : ℕ)
    → Lawful z w hs vs → IsName hs vs x → IsTree w.nodes t x → IsOrdered t × IsReduced t
ordered z w hs vs False x law p is = (tt, tt)
ordered z w hs vs True x law p is = (tt, tt)
ordered z w hs vs (Node v l h) x law (inl lt) is = absurd (let two = is.0 in omega arith)
ordered z w hs vs (Node v l h) x law (inr p) is =
    let n : ℕ = get_or w.nodes x 0 in
    let s = law.tables.shaped x p in
    let ln = low_named z w hs vs x law p in
    let hn = high_named z w hs vs x law p in
    let a = ordered z w hs vs l (low_of n) law ln is.2 in
    let b = ordered z w hs vs h (high_of n) law hn is.3 in
    let e = is.1 in
    let al = s.above_low in
    let ah = s.above_high in (
      (
        starts_above w.nodes v (low_of n) l is.2 (omega arith),
        starts_above w.nodes v (high_of n) h
            is.3 (omega arith),
        a.0,
        b.0,
      ),
      (
        (λ q. s.differ (one_slot z w hs vs l (low_of n) (high_of n) law ln hn is.2
            (subst (λ (k : Tree). IsTree w.nodes k (high_of n)) (sym q) is.3))),
        a.1,
        b.1,
      ),
    )

pub canonical : (z : Sizes) (w : Words) (hs : Homes) (vs : List View) (t : Tree) (x : ℕ)
    → Lawful z w hs vs → IsName hs vs x → IsTree w.nodes t x → IsCanonical t
canonical z w hs vs t x law p is = let o = ordered z w hs vs t x law p is in record {
  ordered = o.0;
  reduced = o.1;
}

pub have_trees : (z : Sizes) (w : Words) (hs : Homes) (vs : List View) → Lawful z w hs vs
    → HaveTrees w hs vs
have_trees z w hs vs law = record {
  tree = λ x is. let t = tree_there z w hs vs x law is in
      (t.0, t.1, canonical z w hs vs t.0 x law is t.1);
  one_tree = λ x s t a b. is_tree_one w.nodes s t x a b;
  one_name = λ x y t a b p q. one_slot z w hs vs t x y law a b p q;
}

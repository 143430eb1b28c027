use Rattle.std.proofs.Common.{◌≡◌, ℕ, zero, suc, ◌+◌, ◌*◌, ◌<◌, Bool, true, false, ◌&&◌, cond}
use Rattle.std.proofs.Common.{nat_eq, List, [], ◌∷◌, ◌++◌, length, get_or, set, replicate, count_by}
use Rattle.std.proofs.Common.{refl, ◌∙◌, arith, eqb-true}
use Rattle.std.proofs.lemmas.Bool.{and_parts, false≢true}
use Rattle.std.proofs.lemmas.List.Sums.{sum_by-append}
use Rattle.std.proofs.lemmas.List.Folds.{sum_by-replicate}
use Rattle.eqc_tree.specs.Tree.{Tree, False, True, Node}
use Rattle.eqc_tree.specs.Holding.{Entry, tree_eq, entry_eq}
use Rattle.eqc_plain.specs.Store.{listed}

-- trees that test equal are equal
pub tree_eq-true : (s t : Tree) → tree_eq s t ≡ true → s ≡ t
tree_eq-true False False e = refl
tree_eq-true True True e = refl
tree_eq-true False True e = absurd (false≢true e)
tree_eq-true True False e = absurd (false≢true e)
tree_eq-true False (Node w x y) e = absurd (false≢true e)
tree_eq-true True (Node w x y) e = absurd (false≢true e)
tree_eq-true (Node v l h) False e = absurd (false≢true e)
tree_eq-true (Node v l h) True e = absurd (false≢true e)
tree_eq-true (Node v l h) (Node w x y) e =
    let p = and_parts (nat_eq v w) (tree_eq l x && tree_eq h y) e in
    let q = and_parts (tree_eq l x) (tree_eq h y) p.1 in
    let a : v ≡ w = eqb-true v w p.0 in
    let b : l ≡ x = tree_eq-true l x q.0 in
    let c : h ≡ y = tree_eq-true h y q.1 in
    cc

-- how often e stands in the list that `listed` makes
abbrev pub tally : ℕ → List Tree → List ℕ → Entry → ℕ
tally i [] cs e = 0
tally i (t ∷ ts) [] e = 0
tally i (t ∷ ts) (c ∷ cs) e = cond (entry_eq e (record { number = i; tree = t })) c 0
    + tally (i + 1) ts cs e

times_test : (b : Bool) (c : ℕ) → c * cond b 1 0 ≡ cond b c 0
times_test true c = omega arith
times_test false c = omega arith

-- the list, counted
pub count_by-listed : (i : ℕ) (ts : List Tree) (cs : List ℕ) (e : Entry)
    → count_by (entry_eq e) (listed i ts cs) ≡ tally i ts cs e
count_by-listed i [] cs e = refl
count_by-listed i (t ∷ ts) [] e = refl
count_by-listed i (t ∷ ts) (c ∷ cs) e =
    sum_by-append (λ x. cond (entry_eq e x) 1 0) (replicate c (record { number = i; tree = t }))
    (listed (i + 1) ts cs)
    ∙ omega (
      arith,
      sum_by-replicate (λ x. cond (entry_eq e x) 1 0) c (record {
        number = i;
        tree =
            t;
      }),
      times_test (entry_eq e (record { number = i; tree = t })) c,
      count_by-listed (i + 1) ts
          cs e,
    )

-- a count that is written
pub tally-set : (i k m : ℕ) (ts : List Tree) (cs : List ℕ) (e : Entry) → k < length ts
    → k < length cs →
    tally i ts (set cs k m) e
    + cond (entry_eq e (record { number = i + k; tree = get_or ts k False })) (get_or cs k 0) 0
    ≡ tally i ts cs e + cond
    (entry_eq e (record { number = i + k; tree = get_or ts k False })) m 0
tally-set i k m [] cs e a b = absurd (omega arith)
tally-set i k m (t ∷ ts) [] e a b = absurd (omega arith)
tally-set i zero m (t ∷ ts) (c ∷ cs) e a b = let z : i + 0 ≡ i = omega arith in rw z (omega arith)
tally-set i (suc k) m (t ∷ ts) (c ∷ cs) e a b =
    let z : i + 1 + k ≡ i + suc k = omega arith in
    let ih = rw z at (tally-set (i + 1) k m ts cs e (omega arith) (omega arith)) in
    omega (arith, ih)

no_count : (b : Bool) (c : ℕ) → c ≡ 0 → cond b c 0 ≡ 0
no_count true c e = e
no_count false c e = refl

-- a tree that comes with no count
pub tally-push : (i : ℕ) (ts : List Tree) (t : Tree) (cs : List ℕ) (e : Entry)
    → length ts ≡ length cs → tally i (ts ++ t ∷ []) (cs ++ 0 ∷ []) e ≡ tally i ts cs e
tally-push i [] t [] e h = omega (
  arith,
  no_count (entry_eq e (record { number = i; tree = t })) 0
      refl,
)
tally-push i [] t (c ∷ cs) e h = absurd (omega arith)
tally-push i (u ∷ ts) t [] e h = absurd (omega arith)
tally-push i (u ∷ ts) t (c ∷ cs) e h = omega (arith, tally-push (i + 1) ts t cs e (omega arith))

-- what is counted has its number, its tree and a count
pub record IsCounted (i : ℕ) (ts : List Tree) (cs : List ℕ) (e : Entry) : Type 0 where
  pub place : ℕ
  pub within : place < length ts
  pub number : e.number ≡ i + place
  pub tree : e.tree ≡ get_or ts place False
  pub counted : 0 < get_or cs place 0

counted_later : (i : ℕ) (t : Tree) (ts : List Tree) (c : ℕ) (cs : List ℕ) (e : Entry)
    → IsCounted (i + 1) ts cs e → IsCounted i (t ∷ ts) (c ∷ cs) e
counted_later i t ts c cs e h = record {
  place = suc h.place;
  within = omega (arith, h.within);
  number = omega (arith, h.number);
  tree = h.tree;
  counted = h.counted;
}

counted_by : (b : Bool) (i : ℕ) (t : Tree) (ts : List Tree) (c : ℕ) (cs : List ℕ) (e : Entry)
    → entry_eq e (record { number = i; tree = t }) ≡ b →
    0 < cond b c 0 + tally (i + 1) ts cs e → (0 < tally (i + 1) ts cs e → IsCounted (i + 1) ts cs e)
    → IsCounted i (t ∷ ts) (c ∷ cs) e
counted_by true i t ts zero cs e q h ih = counted_later i t ts zero cs e (ih (omega arith))
counted_by true i t ts (suc c) cs e q h ih =
    let p = and_parts (nat_eq e.number i) (tree_eq e.tree t) q in
    record {
      place = 0;
      within = omega arith;
      number = let n : e.number ≡ i =
          eqb-true e.number i p.0 in omega arith;
      tree = tree_eq-true e.tree t p.1;
      counted =
          omega arith;
    }
counted_by false i t ts c cs e q h ih = counted_later i t ts c cs e (ih (omega arith))

-- what stands in the list is counted
pub counted : (i : ℕ) (ts : List Tree) (cs : List ℕ) (e : Entry) → 0 < tally i ts cs e
    → IsCounted i ts cs e
counted i [] cs e h = absurd (omega arith)
counted i (t ∷ ts) [] e h = absurd (omega arith)
counted i (t ∷ ts) (c ∷ cs) e h = counted_by (entry_eq e (record { number = i; tree = t })) i t ts c
    cs e refl h (counted (i + 1) ts cs e)

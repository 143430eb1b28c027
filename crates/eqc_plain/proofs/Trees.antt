use Rattle.std.proofs.Common.{◌≡◌, ℕ, zero, suc, ◌+◌, ◌-◌, ◌<◌, ◌≤◌, List, [], ◌∷◌, ◌++◌, length}
use Rattle.std.proofs.Common.{get_or, refl, sym, ◌∙◌, ap, subst, arith, length-append, inl, inr}
use Rattle.std.proofs.lemmas.Bool.{cases_lt}
use Rattle.std.proofs.lemmas.List.{get_or_append_left, get_or-append-add}
use Rattle.eqc_tree.specs.Word.{node_word}
use Rattle.eqc_tree.specs.Tree.{Tree, False, True, Node, StartsAbove, IsCanonical, SameFunction}
use Rattle.eqc_tree.proofs.Uniqueness.{bryant}
use Rattle.eqc_plain.specs.Store.{variable_of, low_of, high_of, planted, grown, trees, tree_at}
use Rattle.eqc_plain.specs.Store.{root, IsStore}

-- more words on top of the first ones
pub grown-append : (ts : List Tree) (xs ys : List ℕ) → grown ts (xs ++ ys) ≡ grown (grown ts xs) ys
grown-append ts [] ys = refl
grown-append ts (x ∷ xs) ys = grown-append (ts ++ planted ts x ∷ []) xs ys

-- each word adds a tree
pub length-grown : (ts : List Tree) (ws : List ℕ) → length (grown ts ws) ≡ length ts + length ws
length-grown ts [] = omega arith
length-grown ts (w ∷ ws) = omega (
  arith,
  length-grown (ts ++ planted ts w ∷ []) ws,
  length-append ts (planted ts w ∷ []),
)

-- the first trees stay
pub grown_keeps : (ts : List Tree) (ws : List ℕ) (x : ℕ) → x < length ts
    → get_or (grown ts ws) x False ≡ get_or ts x False
grown_keeps ts [] x h = refl
grown_keeps ts (w ∷ ws) x h =
    grown_keeps (ts ++ planted ts w ∷ []) ws x (omega (arith, length-append ts (planted ts w ∷ [])))
    ∙ get_or_append_left ts (planted ts w ∷ []) False x h

-- how many numbers there are
pub length-trees : (ws : List ℕ) → length (trees ws) ≡ length ws + 2
unfolding trees
length-trees ws = omega (arith, length-grown (False ∷ True ∷ []) ws)

-- number 0 is false
pub tree_at-zero : (ws : List ℕ) → tree_at ws 0 ≡ False
unfolding trees
tree_at-zero ws = grown_keeps (False ∷ True ∷ []) ws 0 (omega arith)

-- number 1 is true
pub tree_at-one : (ws : List ℕ) → tree_at ws 1 ≡ True
unfolding trees
tree_at-one ws = grown_keeps (False ∷ True ∷ []) ws 1 (omega arith)

-- a number's tree stays when words come
pub tree_at-append : (xs ys : List ℕ) (x : ℕ) → x < length xs + 2 → tree_at (xs ++ ys) x
    ≡ tree_at xs x
unfolding trees
tree_at-append xs ys x h =
    rw (grown-append (False ∷ True ∷ []) xs ys) (grown_keeps (grown (False ∷ True ∷ []) xs) ys x
    (omega (arith, length-grown (False ∷ True ∷ []) xs)))

-- the trees after one more word
pub trees-push : (ws : List ℕ) (w : ℕ) → trees (ws ++ w ∷ []) ≡ trees ws ++ planted (trees ws) w
    ∷ []
unfolding trees
trees-push ws w = grown-append (False ∷ True ∷ []) ws (w ∷ [])

-- the tree of the word that came last
pub tree_at-last : (ws : List ℕ) (w : ℕ) → tree_at (ws ++ w ∷ []) (length ws + 2)
    ≡ planted (trees ws) w
tree_at-last ws w =
    let z : length (trees ws) + 0 ≡ length ws + 2 = omega (arith, length-trees ws) in
    let e : get_or (trees ws ++ planted (trees ws) w ∷ []) (length ws + 2) False
    ≡ planted (trees ws) w =
    subst (λ n. get_or (trees ws ++ planted (trees ws) w ∷ []) n False ≡ planted (trees ws) w) z
    (get_or-append-add (trees ws) (planted (trees ws) w ∷ []) 0 False) in
    ap (λ ts. get_or ts (length ws + 2) False) (trees-push ws w) ∙ e

-- the tree of slot k is planted over the others
grown_at : (ts : List Tree) (ws : List ℕ) (k : ℕ) → k < length ws → low_of (get_or ws k 0)
    < length ts + k →
    high_of (get_or ws k 0) < length ts + k → get_or (grown ts ws) (length ts + k) False
    ≡ planted (grown ts ws) (get_or ws k 0)
grown_at ts [] k h l r = absurd (omega arith)
grown_at ts (w ∷ ws) zero h l r =
    let more = ts ++ planted ts w ∷ [] in
    let here : get_or (grown more ws) (length ts + 0) False ≡ get_or more (length ts + 0) False =
    grown_keeps more ws (length ts + 0) (omega (arith, length-append ts (planted ts w ∷ []))) in
    let there : get_or more (length ts + 0) False ≡ planted ts w =
    get_or-append-add ts (planted ts w ∷ []) 0 False in
    let low : get_or (grown ts (w ∷ ws)) (low_of w) False ≡ get_or ts (low_of w) False =
    grown_keeps ts (w ∷ ws) (low_of w) (omega arith) in
    let high : get_or (grown ts (w ∷ ws)) (high_of w) False ≡ get_or ts (high_of w) False =
    grown_keeps ts (w ∷ ws) (high_of w) (omega arith) in
    cc
grown_at ts (w ∷ ws) (suc k) h l r =
    let more = ts ++ planted ts w ∷ [] in
    let len : length more ≡ length ts + 1 = length-append ts (planted ts w ∷ []) in
    let at : length more + k ≡ length ts + suc k = omega arith in
    let ih : get_or (grown more ws) (length more + k) False ≡ planted (grown more ws)
    (get_or ws k 0) =
    grown_at more ws k (omega arith) (omega arith) (omega arith) in
    subst (λ n. get_or (grown more ws) n False ≡ planted (grown more ws) (get_or ws k 0)) at ih

-- the tree of number x, whose word is w
abbrev pub node_tree : List ℕ → ℕ → Tree
node_tree ws w = Node (variable_of w) (tree_at ws (low_of w)) (tree_at ws (high_of w))

-- the tree of a slot
pub tree_at-slot : (ws : List ℕ) (k : ℕ) → k < length ws → low_of (get_or ws k 0) < k + 2
    → high_of (get_or ws k 0) < k + 2 → tree_at ws (suc (suc k)) ≡ node_tree ws (get_or ws k 0)
unfolding trees
tree_at-slot ws k h l r =
    let e : 2 + k ≡ suc (suc k) = omega arith in
    subst (λ n. get_or (grown (False ∷ True ∷ []) ws) n False
    ≡ planted (grown (False ∷ True ∷ []) ws) (get_or ws k 0)) e
    (grown_at (False ∷ True ∷ []) ws k h (omega arith) (omega arith))

module _ {variables limit : ℕ} {ws counts : List ℕ} (s : IsStore variables limit ws counts) where
  node_at : (k : ℕ) → k < length ws → tree_at ws (suc (suc k)) ≡ node_tree ws (get_or ws k 0)
  node_at k h = tree_at-slot ws k h (s.shape k h).low (s.shape k h).high

  -- words of slots with equal children and variable are equal
  same_word : (i j : ℕ) → i < length ws → j < length ws → variable_of (get_or ws i 0)
      ≡ variable_of (get_or ws j 0) →
      low_of (get_or ws i 0) ≡ low_of (get_or ws j 0) → high_of (get_or ws i 0)
      ≡ high_of (get_or ws j 0) → get_or ws i 0 ≡ get_or ws j 0
  same_word i j hi hj ev el eh =
      let p = (s.shape i hi).packed in
      let q = (s.shape j hj).packed in
      let w : node_word (variable_of (get_or ws i 0)) (low_of (get_or ws i 0))
      (high_of (get_or ws i 0)) ≡ node_word (variable_of (get_or ws j 0))
      (low_of (get_or ws j 0)) (high_of (get_or ws j 0)) =
      rw (ev, el, eh) refl in
      p ∙ (w ∙ sym q)

  -- different numbers have different trees
  differ_upto : (n x y : ℕ) → x < n → x < length ws + 2 → y < length ws + 2
      → tree_at ws x ≡ tree_at ws y → x ≡ y
  differ_upto zero x y h a b e = absurd (omega arith)
  differ_upto (suc n) zero zero h a b e = refl
  differ_upto (suc n) zero (suc zero) h a b e = let f = tree_at-zero ws in let g = tree_at-one ws in
      cc
  differ_upto (suc n) zero (suc (suc j)) h a b e = let f = tree_at-zero ws in let g =
      node_at j (omega arith) in cc
  differ_upto (suc n) (suc zero) zero h a b e = let f = tree_at-zero ws in let g = tree_at-one ws in
      cc
  differ_upto (suc n) (suc zero) (suc zero) h a b e = refl
  differ_upto (suc n) (suc zero) (suc (suc j)) h a b e = let f = tree_at-one ws in let g =
      node_at j (omega arith) in cc
  differ_upto (suc n) (suc (suc i)) zero h a b e = let f = tree_at-zero ws in let g =
      node_at i (omega arith) in cc
  differ_upto (suc n) (suc (suc i)) (suc zero) h a b e = let f = tree_at-one ws in let g =
      node_at i (omega arith) in cc
  differ_upto (suc n) (suc (suc i)) (suc (suc j)) h a b e =
      let hi : i < length ws = omega arith in
      let hj : j < length ws = omega arith in
      let p = s.shape i hi in
      let q = s.shape j hj in
      let f = node_at i hi in
      let g = node_at j hj in
      let ev : variable_of (get_or ws i 0) ≡ variable_of (get_or ws j 0) = cc in
      let el : tree_at ws (low_of (get_or ws i 0)) ≡ tree_at ws (low_of (get_or ws j 0)) = cc in
      let eh : tree_at ws (high_of (get_or ws i 0)) ≡ tree_at ws (high_of (get_or ws j 0)) = cc in
      let l : low_of (get_or ws i 0) ≡ low_of (get_or ws j 0) =
      differ_upto n _ _ (omega (arith, p.low)) (omega (arith, p.low)) (omega (arith, q.low)) el
      in
      let r : high_of (get_or ws i 0) ≡ high_of (get_or ws j 0) =
      differ_upto n _ _ (omega (arith, p.high)) (omega (arith, p.high)) (omega (arith, q.high))
      eh in
      let m : i ≡ j = s.once i j hi hj (same_word i j hi hj ev l r) in
      omega arith

  differ : (x y : ℕ) → x < length ws + 2 → y < length ws + 2 → tree_at ws x ≡ tree_at ws y → x ≡ y
  differ x y a b e = differ_upto (suc x) x y (omega arith) a b e

  starts : (v : ℕ) (t : Tree) → v < root variables t → StartsAbove v t
  starts v False h = tt
  starts v True h = tt
  starts v (Node w l r) h = h

  canonical_upto : (n x : ℕ) → x < n → x < length ws + 2 → IsCanonical (tree_at ws x)
  canonical_upto zero x h a = absurd (omega arith)
  canonical_upto (suc n) zero h a = subst IsCanonical (sym (tree_at-zero ws)) (record {
    ordered =
        tt;
    reduced = tt;
  })
  canonical_upto (suc n) (suc zero) h a = subst IsCanonical (sym (tree_at-one ws))
      (record { ordered = tt; reduced = tt })
  canonical_upto (suc n) (suc (suc k)) h a =
      let hk : k < length ws = omega arith in
      let p = s.shape k hk in
      let l = canonical_upto n (low_of (get_or ws k 0)) (omega (arith, p.low))
      (omega (arith, p.low)) in
      let r = canonical_upto n (high_of (get_or ws k 0)) (omega (arith, p.high))
      (omega (arith, p.high)) in
      subst IsCanonical (sym (node_at k hk)) (record {
        ordered = (starts _ _ p.above_low, starts _ _ p.above_high, l.ordered, r.ordered);
        reduced = (
          λ e. p.differ (differ _ _ (omega (arith, p.low)) (omega (arith, p.high)) e),
          l.reduced,
          r.reduced,
        );
      })

  -- each tree is ordered and reduced
  canonical : (x : ℕ) → x < length ws + 2 → IsCanonical (tree_at ws x)
  canonical x a = canonical_upto (suc x) x (omega arith) a

  -- equal functions have one number
  pub unique_number : (x y : ℕ) → x < length ws + 2 → y < length ws + 2
      → SameFunction (tree_at ws x) (tree_at ws y) → x ≡ y
  unique_number x y a b f = differ x y a b (bryant _ _ (canonical x a) (canonical y b) f)

  -- the tree of a node
  pub tree_at-node : (x : ℕ) → 2 ≤ x → x < length ws + 2
      → tree_at ws x ≡ node_tree ws (get_or ws (x - 2) 0)
  tree_at-node x two h =
      let z : suc (suc (x - 2)) ≡ x = omega arith in
      rw z at (node_at (x - 2) (omega arith))

  -- the root of a node
  pub root-node : (x : ℕ) → 2 ≤ x → x < length ws + 2 → root variables (tree_at ws x)
      ≡ variable_of (get_or ws (x - 2) 0)
  root-node x two h = ap (root variables) (tree_at-node x two h)

-- the root of a constant
pub root-constant : (n : ℕ) (ws : List ℕ) (x : ℕ) → x < 2 → root n (tree_at ws x) ≡ n
root-constant n ws zero h = ap (root n) (tree_at-zero ws)
root-constant n ws (suc zero) h = ap (root n) (tree_at-one ws)
root-constant n ws (suc (suc x)) h = absurd (omega arith)

module _ {variables limit : ℕ} {ws counts : List ℕ} (s : IsStore variables limit ws counts) where
  root_upto : (n x : ℕ) → x < n → x < length ws + 2 → root variables (tree_at ws x) ≤ variables
  root_upto zero x h w = absurd (omega arith)
  root_upto (suc n) x h w =
      elim (cases_lt x 2) [
        | inl low ↦ omega (arith, root-constant variables ws x low)
        | inr high ↦
            let k : x - 2 < length ws = omega arith in
            let p = s.shape (x - 2) k in
            omega (
              arith,
              root-node s x high w,
              p.above_low,
              root_upto n (low_of (get_or ws (x - 2) 0)) (omega (arith, p.low))
                  (omega (arith, p.low)),
            )
      ]

  -- a node's variable is one of the variables
  pub root_below : (x : ℕ) → 2 ≤ x → x < length ws + 2 → root variables (tree_at ws x) < variables
  root_below x high w =
      let k : x - 2 < length ws = omega arith in
      let p = s.shape (x - 2) k in
      omega (
        arith,
        root-node s x high w,
        p.above_low,
        root_upto (suc (low_of (get_or ws (x - 2) 0))) (low_of (get_or ws (x - 2) 0))
            (omega arith) (omega (arith, p.low)),
      )

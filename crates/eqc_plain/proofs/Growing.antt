use Rattle.std.proofs.Common.{◌≡◌, ◌≢◌, ℕ, ◌+◌, ◌-◌, ◌^◌, ◌<◌, ◌≤◌, Bool, true, false, cond, List}
use Rattle.std.proofs.Common.{[], ◌∷◌, ◌++◌, length, get_or, refl, sym, ◌∙◌, ap, subst, arith, inl}
use Rattle.std.proofs.Common.{inr, length-append}
use Rattle.std.proofs.lemmas.Bool.{cases_lt}
use Rattle.std.proofs.lemmas.List.{get_or_append_left, get_or-append-add, append_assoc, append-nil}
use Rattle.eqc_tree.specs.Word.{node_word}
use Rattle.eqc_tree.specs.Tree.{Tree, Node, value}
use Rattle.eqc_tree.proofs.WordLemmas.{node_fields}
use Rattle.eqc_plain.specs.Store.{variable_of, low_of, high_of, trees, tree_at, root, HasShape}
use Rattle.eqc_plain.specs.Store.{IsStore, IsNode, AreCofactors, Grows, planted}
use Rattle.eqc_plain.proofs.Trees.{tree_at-append, tree_at-last, tree_at-node}

-- the fields of a word that was packed
pub record IsPacked (v l h w : ℕ) : Type 0 where
  pub variable : variable_of w ≡ v
  pub low : low_of w ≡ l
  pub high : high_of w ≡ h

pub packed : (v l h : ℕ) → v < 2 ^ 16 → l < 2 ^ 20 → h < 2 ^ 20 → IsPacked v l h (node_word v l h)
unfolding variable_of low_of high_of
packed v l h a b c = let f = node_fields v l h a b c in record {
  variable = f.variable;
  low = f.low;
  high = f.high;
}

-- what stays as the store grows
pub record IsBefore (old new : List ℕ) : Type 0 where
  pub size : length old ≤ length new
  pub tree : (x : ℕ) → x < length old + 2 → tree_at new x ≡ tree_at old x

pub before : (old new : List ℕ) → Grows old new → IsBefore old new
before old new g =
    subst (IsBefore old) g.1 (record {
      size = omega (arith, length-append old g.0);
      tree = λ x h. tree_at-append old g.0 x h;
    })

pub grows_refl : (ws : List ℕ) → Grows ws ws
grows_refl ws = ([], append-nil ws)

pub grows_trans : (a b c : List ℕ) → Grows a b → Grows b c → Grows a c
grows_trans a b c p q = (p.0 ++ q.0, sym (append_assoc a p.0 q.0) ∙ (ap (λ l. l ++ q.0) p.1 ∙ q.1))

-- lists with one more number each are equal where these are
pub snoc_same : (xs ys : List ℕ) (a b : ℕ) → xs ++ a ∷ [] ≡ ys ++ b ∷ [] → xs ≡ ys
snoc_same [] [] a b e = refl
snoc_same [] (y ∷ ys) a b e = let l = length-append ys (b ∷ []) in
    absurd (omega (arith, ap length e))
snoc_same (x ∷ xs) [] a b e = let l = length-append xs (a ∷ []) in
    absurd (omega (arith, ap length e))
snoc_same (x ∷ xs) (y ∷ ys) a b e =
    let head : x ≡ y = cc in
    let tail : xs ++ a ∷ [] ≡ ys ++ b ∷ [] = cc in
    let same = snoc_same xs ys a b tail in
    cc

word_old : (ws : List ℕ) (w k : ℕ) → k < length ws → get_or (ws ++ w ∷ []) k 0 ≡ get_or ws k 0
word_old ws w k h = get_or_append_left ws (w ∷ []) 0 k h

word_new : (ws : List ℕ) (w : ℕ) → get_or (ws ++ w ∷ []) (length ws) 0 ≡ w
word_new ws w = let z : length ws + 0 ≡ length ws = omega arith in
    subst (λ n. get_or (ws ++ w ∷ []) n 0 ≡ w) z (get_or-append-add ws (w ∷ []) 0 0)

shape_grows : (variables : ℕ) (ws : List ℕ) (w k u : ℕ) → k ≤ length ws → HasShape variables ws k u
    → HasShape variables (ws ++ w ∷ []) k u
shape_grows variables ws w k u h s =
    let l : tree_at (ws ++ w ∷ []) (low_of u) ≡ tree_at ws (low_of u) =
    tree_at-append ws (w ∷ []) _ (omega (arith, s.low)) in
    let r : tree_at (ws ++ w ∷ []) (high_of u) ≡ tree_at ws (high_of u) =
    tree_at-append ws (w ∷ []) _ (omega (arith, s.high)) in
    record {
      low = s.low;
      high = s.high;
      differ = s.differ;
      above_low = rw l s.above_low;
      above_high = rw r s.above_high;
      packed = s.packed;
    }

-- a fact of each slot after a push
by_slot : (ws : List ℕ) (w : ℕ) (P : ℕ → Type 0) → ((k : ℕ) → k < length ws → P k) → P (length ws)
    → (k : ℕ) → k < length (ws ++ w ∷ []) → P k
by_slot ws w P old new k h =
    elim (cases_lt k (length ws)) [
      | inl below ↦ old k below
      | inr above ↦ let e : length ws ≡ k = omega (arith, length-append ws (w ∷ [])) in
          subst P e new
    ]

once_more : (ws : List ℕ) (w : ℕ) → ((i j : ℕ) → i < length ws → j < length ws
    → get_or ws i 0 ≡ get_or ws j 0 → i ≡ j) →
    ((k : ℕ) → k < length ws → get_or ws k 0 ≢ w) → (i j : ℕ) → i < length (ws ++ w ∷ [])
    → j < length (ws ++ w ∷ []) →
    get_or (ws ++ w ∷ []) i 0 ≡ get_or (ws ++ w ∷ []) j 0 → i ≡ j
once_more ws w once absent i j hi hj =
    by_slot ws w (λ i. get_or (ws ++ w ∷ []) i 0 ≡ get_or (ws ++ w ∷ []) j 0 → i ≡ j)
    (λ i a. by_slot ws w (λ j. get_or (ws ++ w ∷ []) i 0 ≡ get_or (ws ++ w ∷ []) j 0 → i ≡ j)
    (λ j b e. once i j a b (sym (word_old ws w i a) ∙ (e ∙ word_old ws w j b)))
    (λ e. absurd (absent i a (sym (word_old ws w i a) ∙ (e ∙ word_new ws w)))) j hj)
    (by_slot ws w (λ j. get_or (ws ++ w ∷ []) (length ws) 0 ≡ get_or (ws ++ w ∷ []) j 0
    → length ws ≡ j)
    (λ j b e. absurd (absent j b (sym (word_old ws w j b) ∙ (sym e ∙ word_new ws w))))
    (λ e. refl) j hj) i hi

-- a node may be made here
pub record MayStand (variables : ℕ) (ws : List ℕ) (v l h : ℕ) : Type 0 where
  pub low : l < length ws + 2
  pub high : h < length ws + 2
  pub differ : l ≢ h
  pub above_low : v < root variables (tree_at ws l)
  pub above_high : v < root variables (tree_at ws h)
  pub word : IsPacked v l h (node_word v l h)

shape_new : (variables : ℕ) (ws : List ℕ) (v l h : ℕ) → MayStand variables ws v l h
    → HasShape variables ws (length ws) (node_word v l h)
shape_new variables ws v l h m =
    let ev = m.word.variable in
    let el = m.word.low in
    let eh = m.word.high in
    record {
      low = rw el m.low;
      high = rw eh m.high;
      differ = rw (el, eh) m.differ;
      above_low =
          rw (ev, el) m.above_low;
      above_high = rw (ev, eh) m.above_high;
      packed =
          rw (ev, el, eh) refl;
    }

-- a node is made
pub made : {variables limit : ℕ} {ws counts : List ℕ} → IsStore variables limit ws counts
    → (v l h : ℕ) → length ws < limit →
    MayStand variables ws v l h → ((k : ℕ) → k < length ws → get_or ws k 0 ≢ node_word v l h) →
    IsStore variables limit (ws ++ node_word v l h ∷ []) (counts ++ 0 ∷ [])
made {variables} {limit} {ws} {counts} s v l h room m absent =
    let w = node_word v l h in
    let len : length (ws ++ w ∷ []) ≡ length ws + 1 = length-append ws (w ∷ []) in
    record {
      limited = s.limited;
      fits = omega arith;
      counted = omega (arith, length-append counts (0 ∷ []), s.counted);
      shape = by_slot ws w (λ k. HasShape variables (ws ++ w ∷ []) k (get_or (ws ++ w ∷ []) k 0))
          (λ k b. rw (word_old ws w k b) (shape_grows variables ws w k (get_or ws k 0) (omega arith)
          (s.shape k b)))
          (rw (word_new ws w) (shape_grows variables ws w (length ws) w (omega arith)
          (shape_new variables ws v l h m)));
      once = once_more ws w s.once absent;
      constants = λ k b. get_or_append_left counts (0 ∷ []) 0 k (omega (arith, s.counted))
          ∙ s.constants k b;
    }

node_value : (v : ℕ) (l h : Tree) (a : ℕ → Bool) (t : Tree) → t ≡ Node v l h
    → value t a ≡ cond (a v) (value h a) (value l a)
node_value v l h a t e = ap (λ t. value t a) e

-- the new number is a node's
pub made_node : (variables : ℕ) (ws : List ℕ) (v l h : ℕ) → MayStand variables ws v l h
    → IsNode variables (ws ++ node_word v l h ∷ []) v l h (length ws + 2)
made_node variables ws v l h m =
    let w = node_word v l h in
    let len : length (ws ++ w ∷ []) ≡ length ws + 1 = length-append ws (w ∷ []) in
    let el : tree_at (ws ++ w ∷ []) l ≡ tree_at ws l = tree_at-append ws (w ∷ []) l m.low in
    let eh : tree_at (ws ++ w ∷ []) h ≡ tree_at ws h = tree_at-append ws (w ∷ []) h m.high in
    let p : planted (trees ws) w ≡ Node v (tree_at ws l) (tree_at ws h) =
    rw (m.word.variable, m.word.low, m.word.high) refl in
    let n : tree_at (ws ++ w ∷ []) (length ws + 2) ≡ Node v (tree_at (ws ++ w ∷ []) l)
    (tree_at (ws ++ w ∷ []) h) = tree_at-last ws w ∙ (p ∙ rw (el, eh) refl) in
    record {
      within = omega arith;
      root_at = rw n (omega arith);
      function = λ a. node_value _ _ _ a _ n;
    }

-- a word that is found is the node's
pub found_node : {variables limit : ℕ} {ws counts : List ℕ} → IsStore variables limit ws counts
    → (v l h k : ℕ) →
    IsPacked v l h (node_word v l h) → k < length ws → get_or ws k 0 ≡ node_word v l h
    → IsNode variables ws v l h (k + 2)
found_node {variables} {limit} {ws} {counts} s v l h k w at e =
    let z : k + 2 - 2 ≡ k = omega arith in
    let t0 = tree_at-node s (k + 2) (omega arith) (omega arith) in
    let t : tree_at ws (k + 2) ≡ Node v (tree_at ws l) (tree_at ws h) =
    rw (z, e, w.variable, w.low, w.high) at t0 in
    record {
      within = omega arith;
      root_at = rw t (omega arith);
      function = λ a. node_value _ _ _ a _ t;
    }

either : (b : Bool) (x y : Bool) → x ≡ y → x ≡ cond b y x
either true x y e = e
either false x y e = refl

-- equal children are the node
pub equal_children : (variables : ℕ) (ws : List ℕ) (v low high : ℕ) → low ≡ high
    → low < length ws + 2 → v < root variables (tree_at ws low) → IsNode variables ws v low high low
equal_children variables ws v low high e h r =
    record {
      within = h;
      root_at = omega (arith, r);
      function = λ a. either (a v) (value (tree_at ws low) a) (value (tree_at ws high) a)
          (ap (λ n. value (tree_at ws n) a) e);
    }

-- what starts below v does not depend on v
pub cofactors_same : (variables : ℕ) (ws : List ℕ) (v x : ℕ) → x < length ws + 2
    → v < root variables (tree_at ws x) → AreCofactors variables ws v x x x
cofactors_same variables ws v x h above =
    record {
      low_within = h;
      high_within = h;
      above_low = above;
      above_high = above;
      function = λ a. either (a v) (value (tree_at ws x) a) (value (tree_at ws x) a) refl;
    }

-- a node of v is its children
pub cofactors_node : {variables limit : ℕ} {ws counts : List ℕ} → IsStore variables limit ws counts
    → (v x : ℕ) → 2 ≤ x → x < length ws + 2 →
    variable_of (get_or ws (x - 2) 0) ≡ v
    → AreCofactors variables ws v x (low_of (get_or ws (x - 2) 0))
    (high_of (get_or ws (x - 2) 0))
cofactors_node {variables} {limit} {ws} {counts} s v x two h e =
    let k : x - 2 < length ws = omega arith in
    let p = s.shape (x - 2) k in
    record {
      low_within = omega (arith, p.low);
      high_within = omega (arith, p.high);
      above_low = omega (arith, p.above_low);
      above_high = omega (arith, p.above_high);
      function = λ a.
          subst
          (λ u. value (tree_at ws x) a
          ≡ cond (a u) (value (tree_at ws (high_of (get_or ws (x - 2) 0))) a)
          (value (tree_at ws (low_of (get_or ws (x - 2) 0))) a))
          e (ap (λ t. value t a) (tree_at-node s x two h));
    }

-- what a node needs of its children
pub may_stand : {variables limit : ℕ} {ws counts : List ℕ} → IsStore variables limit ws counts
    → (v l h : ℕ) → v < 2 ^ 16 → l < length ws + 2 →
    h < length ws + 2 → l ≢ h → v < root variables (tree_at ws l)
    → v < root variables (tree_at ws h) → MayStand variables ws v l h
may_stand s v l h small low high differ above_low above_high =
    record {
      low = low;
      high = high;
      differ = differ;
      above_low = above_low;
      above_high =
          above_high;
      word = packed v l h small (omega (arith, s.limited, s.fits))
          (omega (arith, s.limited, s.fits));
    }

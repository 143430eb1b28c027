use Rattle.std.proofs.Common.{◌≡◌, ◌≢◌, ℕ, zero, suc, ◌+◌, ◌-◌, ◌<◌, ◌≤◌, Bool, true, false, cond}
use Rattle.std.proofs.Common.{nat_eq, nat_lt, List, [], ◌∷◌, ◌++◌, length, get_or, set, count_by}
use Rattle.std.proofs.Common.{replicate, refl, sym, ◌∙◌, ap, subst, arith, inl, inr, ◌↔◌, eqb-true}
use Rattle.std.proofs.lemmas.Bool.{cases_lt, lt-ltb, le-ltb, eq-eqb}
use Rattle.std.proofs.lemmas.Bool.Decides.{nat_tests}
use Rattle.std.proofs.lemmas.List.{get_or-set_other, length-set, get_or_default}
use Rattle.std.specs.Prelude.{IsTrue}
use Rattle.eqc_tree.specs.Tree.{Tree, False, value}
use Rattle.eqc_tree.specs.Holding.{Entry, Holding, IsHeld, IsNew, entry_eq, copies, weight, says}
use Rattle.eqc_tree.specs.Holding.{Keeps, Gains, Loses}
use Rattle.eqc_tree.proofs.HoldingLemmas.{entry_eq_self}
use Rattle.eqc_plain.specs.Store.{tree_at, trees, planted, IsStore, holding_of, entry_at, listed}
use Rattle.eqc_plain.proofs.Trees.{length-trees, tree_at-zero, tree_at-one, trees-push}
use Rattle.eqc_plain.proofs.Trees.{unique_number}
use Rattle.eqc_plain.proofs.Counting.{tally, count_by-listed, tally-set, tally-push, counted}

-- a held reference, made over the words `then`: its number is one here, its tree is the one that
-- stands here now
pub record IsKnown (ws then counts : List ℕ) (x : ℕ) : Type 0 where
  pub within : x < length ws + 2
  pub tree : tree_at then x ≡ tree_at ws x
  pub counted : 2 ≤ x → 0 < get_or counts x 0

known_constant : (ws then counts : List ℕ) (x : ℕ) → x < 2 → IsKnown ws then counts x
known_constant ws then counts zero h = record {
  within = omega arith;
  tree = tree_at-zero then
      ∙ sym (tree_at-zero ws);
  counted = λ k. absurd (omega arith);
}
known_constant ws then counts (suc zero) h = record {
  within = omega arith;
  tree = tree_at-one then
      ∙ sym (tree_at-one ws);
  counted = λ k. absurd (omega arith);
}
known_constant ws then counts (suc (suc x)) h = absurd (omega arith)

pub held_is : (variables : ℕ) (ws then counts : List ℕ) (x : ℕ)
    → IsHeld (holding_of variables ws counts) (entry_at then x) → IsKnown ws then counts x
unfolding copies holding_of
held_is variables ws then counts x h =
    elim (cases_lt x 2) [
      | inl low ↦ known_constant ws then counts x low
      | inr high ↦
          let e : nat_lt x 2 ≡ false = le-ltb x 2 high in
          let h' : 0 < cond false 1 0 + count_by (entry_eq (entry_at then x))
          (listed 0 (trees ws) counts) =
          subst (λ b. 0 < cond b 1 0 + count_by (entry_eq (entry_at then x))
          (listed 0 (trees ws) counts)) e h in
          let t : 0 < tally 0 (trees ws) counts (entry_at then x) =
          omega (arith, count_by-listed 0 (trees ws) counts (entry_at then x)) in
          let k = counted 0 (trees ws) counts (entry_at then x) t in
          let at : k.place ≡ x = omega (arith, k.number) in
          record {
            within = omega (arith, k.within, length-trees ws, at);
            tree = subst (λ n. tree_at then x ≡ get_or (trees ws) n False) at k.tree;
            counted = λ _. subst (λ n. 0 < get_or counts n 0) at k.counted;
          }
    ]

up_by : (b : Bool) (s t c : ℕ) → s + cond b c 0 ≡ t + cond b (c + 1) 0 → s ≡ t + cond b 1 0
up_by true s t c h = omega arith
up_by false s t c h = omega arith

down_by : (b : Bool) (s t c : ℕ) → 0 < c → s + cond b c 0 ≡ t + cond b (c - 1) 0
    → s + cond b 1 0 ≡ t
down_by true s t c p h = omega arith
down_by false s t c p h = omega arith

set_at_x : (x m : ℕ) (ws counts : List ℕ) (e : Entry) → x < length ws + 2 → x < length counts →
    tally 0 (trees ws) (set counts x m) e + cond (entry_eq e (entry_at ws x)) (get_or counts x 0) 0
    ≡ tally 0 (trees ws) counts e + cond (entry_eq e (entry_at ws x)) m 0
set_at_x x m ws counts e a b =
    let z : 0 + x ≡ x = omega arith in
    rw z at (tally-set 0 x m (trees ws) counts e (omega (arith, length-trees ws)) b)

counted_up : (variables : ℕ) (ws counts : List ℕ) (x : ℕ) → 2 ≤ x → x < length ws + 2
    → x < length counts → (e : Entry) →
    copies (holding_of variables ws (set counts x (get_or counts x 0 + 1))) e
    ≡ copies (holding_of variables ws counts) e + weight (entry_at ws x) e
unfolding copies weight holding_of
counted_up variables ws counts x two within room e =
    let t : nat_lt x 2 ≡ false = le-ltb x 2 two in
    let u = up_by (entry_eq e (entry_at ws x)) _ _ _ (set_at_x x (get_or counts x 0 + 1) ws counts e
    within room) in
    rw t (omega (
      arith,
      u,
      count_by-listed 0 (trees ws) counts e,
      count_by-listed 0 (trees ws)
          (set counts x (get_or counts x 0 + 1)) e,
    ))

counted_down : (variables : ℕ) (ws counts : List ℕ) (x : ℕ) → 2 ≤ x → x < length ws + 2
    → x < length counts → 0 < get_or counts x 0 →
    (e : Entry) →
    copies (holding_of variables ws (set counts x (get_or counts x 0 - 1))) e
    + weight (entry_at ws x) e ≡ copies (holding_of variables ws counts) e
unfolding copies weight holding_of
counted_down variables ws counts x two within room some e =
    let t : nat_lt x 2 ≡ false = le-ltb x 2 two in
    let u = down_by (entry_eq e (entry_at ws x)) _ _ _ some (set_at_x x (get_or counts x 0 - 1) ws
    counts e within room) in
    rw t (omega (
      arith,
      u,
      count_by-listed 0 (trees ws) counts e,
      count_by-listed 0 (trees ws)
          (set counts x (get_or counts x 0 - 1)) e,
    ))

-- a constant weighs nothing
weight_constant : (then : List ℕ) (x : ℕ) → x < 2 → (e : Entry) → weight (entry_at then x) e ≡ 0
unfolding weight
weight_constant then x h e = rw (lt-ltb x 2 h) refl

-- a count may change
pub recounted : {variables limit : ℕ} {ws counts : List ℕ} {x : ℕ}
    → IsStore variables limit ws counts → 2 ≤ x → (m : ℕ)
    → IsStore variables limit ws (set counts x m)
recounted {variables} {limit} {ws} {counts} {x} s two m =
    record {
      limited = s.limited;
      fits = s.fits;
      counted = length-set counts x m ∙ s.counted;
      shape = s.shape;
      once = s.once;
      constants = λ k h. let n : k ≢ x = λ e. absurd (omega arith) in
          get_or-set_other counts x k m 0 n ∙ s.constants k h;
    }

-- equal numbers, equal functions
pub same_number : {variables limit : ℕ} {ws then thereafter counts : List ℕ} {x y : ℕ}
    → IsStore variables limit ws counts →
    IsKnown ws then counts x → IsKnown ws thereafter counts y →
    IsTrue (nat_eq x y) ↔ ((a : ℕ → Bool) → says (entry_at then x) a ≡ says (entry_at thereafter y)
    a)
same_number {variables} {limit} {ws} {then} {thereafter} {counts} {x} {y} s p q = (
  (λ e a. let n : x ≡ y = eqb-true x y e in ap (λ t. value t a) (p.tree
      ∙ (ap (tree_at ws) n ∙ sym q.tree))),
  (λ f. eq-eqb x y (unique_number s x y p.within q.within (λ a. sym (ap (λ t. value t a) p.tree)
      ∙ (f a ∙ ap (λ t. value t a) q.tree)))),
)

-- a constant's reference comes
pub gains_constant : (variables : ℕ) (ws then counts : List ℕ) (x : ℕ) (f : (ℕ → Bool) → Bool)
    → x < 2 →
    ((a : ℕ → Bool) → value (tree_at then x) a ≡ f a) → Gains (holding_of variables ws counts)
    (holding_of variables ws counts) (entry_at then x) f
gains_constant variables ws then counts x f h e =
    record { variables = refl; held = λ d. omega (arith, weight_constant then x h d); function = e }

gains_node : (variables : ℕ) (ws then counts : List ℕ) (x : ℕ) → 2 ≤ x → x < length ws + 2
    → x < length counts → then ≡ ws →
    Gains (holding_of variables ws counts) (holding_of variables ws (set counts x (get_or counts x 0
    + 1))) (entry_at then x) (says (entry_at ws x))
unfolding holding_of
gains_node variables ws then counts x two within room same =
    record {
      variables = refl;
      held = λ d. rw same (counted_up variables ws counts x two within room d);
      function = λ a. rw same refl;
    }

loses_node : (variables limit : ℕ) (ws then counts : List ℕ) (x : ℕ)
    → IsStore variables limit ws counts → 2 ≤ x → IsKnown ws then counts x →
    Loses (holding_of variables ws counts) (holding_of variables ws
    (set counts x (get_or counts x 0 - 1))) (entry_at then x)
unfolding holding_of
loses_node variables limit ws then counts x s two k =
    record {
      variables = refl;
      held = λ d. rw (k.tree) (counted_down variables ws counts x two k.within
          (omega (arith, k.within, s.counted)) (k.counted two) d);
    }

-- a constant's reference goes
pub loses_constant : (variables : ℕ) (ws then counts : List ℕ) (x : ℕ) → x < 2
    → Loses (holding_of variables ws counts) (holding_of variables ws counts) (entry_at then x)
loses_constant variables ws then counts x h =
    record { variables = refl; held = λ d. omega (arith, weight_constant then x h d) }

-- a node's function is no constant
pub not_constant : (variables limit : ℕ) (ws then counts : List ℕ) (x : ℕ) (b : Bool)
    → IsStore variables limit ws counts → 2 ≤ x →
    IsKnown ws then counts x → ((a : ℕ → Bool) → value (tree_at then x) a ≡ b) → ⊥
not_constant variables limit ws then counts x false s two k e =
    let n : x ≡ 0 = unique_number s x 0 k.within (omega arith)
    (λ a. sym (ap (λ t. value t a) k.tree)
    ∙ (e a ∙ sym (ap (λ t. value t a) (tree_at-zero ws)))) in
    omega arith
not_constant variables limit ws then counts x true s two k e =
    let n : x ≡ 1 = unique_number s x 1 k.within (omega arith)
    (λ a. sym (ap (λ t. value t a) k.tree) ∙ (e a ∙ sym (ap (λ t. value t a) (tree_at-one ws))))
    in
    omega arith

-- a reference to a node comes, by the count that was read
pub gains_read : (variables : ℕ) (ws then counts : List ℕ) (x m : ℕ) → 2 ≤ x → x < length ws + 2
    → x < length counts → m ≡ get_or counts x m →
    then ≡ ws → Gains (holding_of variables ws counts) (holding_of variables ws
    (set counts x (m + 1))) (entry_at then x) (says (entry_at ws x))
gains_read variables ws then counts x m two within room read same =
    let z : m ≡ get_or counts x 0 = read ∙ get_or_default counts x m 0 room in
    subst (λ n. Gains (holding_of variables ws counts) (holding_of variables ws
    (set counts x (n + 1))) (entry_at then x) (says (entry_at ws x)))
    (sym z) (gains_node variables ws then counts x two within room same)

-- a reference to a node goes, by the count that was read
pub loses_read : (variables limit : ℕ) (ws then counts : List ℕ) (x m : ℕ)
    → IsStore variables limit ws counts → 2 ≤ x →
    IsKnown ws then counts x → m ≡ get_or counts x m →
    Loses (holding_of variables ws counts) (holding_of variables ws (set counts x (m - 1)))
    (entry_at then x)
loses_read variables limit ws then counts x m s two k read =
    let z : m ≡ get_or counts x 0 = read
    ∙ get_or_default counts x m 0 (omega (arith, k.within, s.counted)) in
    subst (λ n. Loses (holding_of variables ws counts) (holding_of variables ws
    (set counts x (n - 1))) (entry_at then x)) (sym z) (loses_node variables limit ws then
    counts x s two k)

-- what has no count has no tally
tally_none : (i x : ℕ) (ts : List Tree) (cs : List ℕ) (t : Tree) → x < i
    → tally i ts cs (record { number = x; tree = t }) ≡ 0
tally_none i x [] cs t h = refl
tally_none i x (u ∷ ts) [] t h = refl
tally_none i x (u ∷ ts) (c ∷ cs) t h =
    let ih : tally (i + 1) ts cs (record { number = x; tree = t }) ≡ 0 =
    tally_none (i + 1) x ts cs t (omega arith) in
    let n : nat_eq x i ≡ false = grind (arith, nat_tests) in
    rw n (omega arith)

-- a number's tally is its count
tally_count : (i k : ℕ) (ts : List Tree) (cs : List ℕ) → k < length ts → k < length cs
    → tally i ts cs (record { number = i + k; tree = get_or ts k False }) ≡ get_or cs k 0
tally_count i k [] cs a b = absurd (omega arith)
tally_count i k (t ∷ ts) [] a b = absurd (omega arith)
tally_count i zero (t ∷ ts) (c ∷ cs) a b =
    let z : i + 0 ≡ i = omega arith in
    let e : entry_eq (record { number = i; tree = t }) (record { number = i; tree = t }) ≡ true =
    entry_eq_self (record { number = i; tree = t }) in
    rw (z, e) (omega (arith, tally_none (i + 1) i ts cs t (omega arith)))
tally_count i (suc k) (t ∷ ts) (c ∷ cs) a b =
    let z : i + 1 + k ≡ i + suc k = omega arith in
    let ih = rw z at (tally_count (i + 1) k ts cs (omega arith) (omega arith)) in
    let n : nat_eq (i + suc k) i ≡ false = grind (arith, nat_tests) in
    rw n (omega (arith, ih))

-- a node's copies are its count
pub copies_count : (variables : ℕ) (ws counts : List ℕ) (x : ℕ) → 2 ≤ x → x < length ws + 2
    → x < length counts → copies (holding_of variables ws counts) (entry_at ws x)
    ≡ get_or counts x 0
unfolding copies holding_of
copies_count variables ws counts x two within room =
    let t : nat_lt x 2 ≡ false = le-ltb x 2 two in
    let z : 0 + x ≡ x = omega arith in
    let e : tally 0 (trees ws) counts (entry_at ws x) ≡ get_or counts x 0 =
    rw z at (tally_count 0 x (trees ws) counts (omega (arith, length-trees ws)) room) in
    rw t (omega (arith, e, count_by-listed 0 (trees ws) counts (entry_at ws x)))

none_listed : (i n : ℕ) (ts : List Tree) → listed i ts (replicate n 0) ≡ []
none_listed i zero [] = refl
none_listed i (suc n) [] = refl
none_listed i zero (t ∷ ts) = refl
none_listed i (suc n) (t ∷ ts) = none_listed (i + 1) n ts

-- an empty store holds nothing
pub new_holding : (variables n : ℕ) (ws : List ℕ)
    → IsNew variables (holding_of variables ws (replicate n 0))
unfolding holding_of
new_holding variables n ws = record { variables = refl; held = none_listed 0 n (trees ws) }

-- a node that comes with no references keeps what is held
pub keeps_push : (variables : ℕ) (ws counts : List ℕ) (w : ℕ) → length counts ≡ length ws + 2
    → Keeps (holding_of variables ws counts) (holding_of variables (ws ++ w ∷ []) (counts ++ 0
    ∷ []))
unfolding holding_of copies
keeps_push variables ws counts w h =
    record {
      variables = refl;
      held = λ e.
          let p : tally 0 (trees (ws ++ w ∷ [])) (counts ++ 0 ∷ []) e ≡ tally 0 (trees ws) counts
          e = ap (λ ts. tally 0 ts (counts ++ 0 ∷ []) e) (trees-push ws w)
          ∙ tally-push 0 (trees ws) (planted (trees ws) w) counts e (omega (arith, length-trees ws))
          in
          omega (
            arith,
            p,
            count_by-listed 0 (trees (ws ++ w ∷ [])) (counts ++ 0 ∷ []) e,
            count_by-listed 0 (trees ws) counts e,
          );
    }

pub keeps_refl : (d : Holding) → Keeps d d
keeps_refl d = record { variables = refl; held = λ e. refl }

-- one function for another
pub gains_as : (old new : Holding) (r : Entry) (f h : (ℕ → Bool) → Bool) → Gains old new r f
    → ((a : ℕ → Bool) → f a ≡ h a) → Gains old new r h
gains_as old new r f h g e = record {
  variables = g.variables;
  held = g.held;
  function =
      λ a. g.function a ∙ e a;
}

at_most_one : (b d : Bool) → cond b 0 (cond d 1 0) ≤ 1
at_most_one true d = omega arith
at_most_one false true = omega arith
at_most_one false false = omega arith

-- a reference stands for itself at most
pub weight_le : (r e : Entry) → weight r e ≤ 1
unfolding weight
weight_le r e = at_most_one (nat_lt r.number 2) (entry_eq e r)

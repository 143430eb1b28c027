-- What is held, counted: an entry as often as references stand on its name, where it has the name's
-- tree.
use Rattle.std.proofs.Common.{◌≡◌, ◌≢◌, ℕ, zero, suc, ◌+◌, ◌-◌, ◌*◌, ◌^◌, ◌<◌, ◌≤◌, Bool, true}
use Rattle.std.proofs.Common.{false, ◌&&◌, cond, nat_eq, nat_lt, List, [], ◌∷◌, length, get_or, set}
use Rattle.std.proofs.Common.{replicate, count_by, min, refl, sym, ap, subst, ◌∙◌, arith, inl, inr}
use native.Mathlib.Decide.{ℕ_discrete, dec_le}
use Rattle.std.proofs.lemmas.Bool.{lt-ltb, le-ltb, eq-eqb, ne_eqb}
use Rattle.std.proofs.lemmas.List.{get_or-set_same, get_or-set_other, get_or_past, get_or_default}
use Rattle.std.proofs.lemmas.List.Sums.{sum_by-append}
use Rattle.std.proofs.lemmas.List.Folds.{sum_by-replicate}
use Rattle.eqc_tree.specs.Tree.{Tree}
use Rattle.eqc_tree.specs.Holding.{Entry, IsHeld as IsIn, tree_eq, entry_eq, copies, weight, says}
use Rattle.eqc_tree.specs.Holding.{Keeps, Gains, Loses}
use Rattle.eqc_tree.proofs.HoldingLemmas.{tree_eq_self}
use Rattle.eqc_plain.proofs.Counting.{tree_eq-true}
use Rattle.eqc_guard.specs.Known.{Known, IsHeld, tree_of}
use Rattle.eqc_guard.specs.Standing.{Standing}
use Rattle.eqc_apply.specs.Names.{refs_of, Has, IsCounted, SameReferences}
use Rattle.eqc_apply.specs.Extending.{entry_in, listed, holding_of}
use Rattle.eqc_apply.proofs.Once.{held_counted}

-- so often an entry stands in the list, where references stand on its name so often
abbrev pub stands : Known → Entry → ℕ → ℕ
stands k e refs = cond (tree_eq e.tree (tree_of k e.number)) refs 0

times_test : (b : Bool) (c : ℕ) → c * cond b 1 0 ≡ cond b c 0
times_test true c = omega arith
times_test false c = omega arith

listed-cons : (k : Known) (i c : ℕ) (cs : List ℕ) (e : Entry)
    → count_by (entry_eq e) (listed k i (c ∷ cs)) ≡ cond (entry_eq e (entry_in k i)) (c - 1) 0
    + count_by (entry_eq e) (listed k (i + 1) cs)
listed-cons k i c cs e =
    sum_by-append (λ x. cond (entry_eq e x) 1 0) (replicate (c - 1) (entry_in k i))
    (listed k (i + 1) cs)
    ∙ omega (
      arith,
      sum_by-replicate (λ x. cond (entry_eq e x) 1 0) (c - 1) (entry_in k i),
      times_test (entry_eq e (entry_in k i)) (c - 1),
    )

other_number : (x i c : ℕ) (b : Bool) → x ≢ i → cond (nat_eq x i && b) c 0 ≡ 0
other_number x i c b n = rw (ne_eqb x i n) refl

same_number : (x c : ℕ) (b : Bool) → cond (nat_eq x x && b) c 0 ≡ cond b c 0
same_number x c b = rw (eq-eqb x x refl) refl

-- names before the first one do not stand in it
none_before : (k : Known) (i x : ℕ) (cs : List ℕ) (t : Tree) → x < i
    → count_by (entry_eq (record { number = x; tree = t })) (listed k i cs) ≡ 0
none_before k i x [] t h = refl
none_before k i x (c ∷ cs) t h =
    let e : Entry = record { number = x; tree = t } in
    listed-cons k i c cs e ∙ omega (
      arith,
      other_number x i (c - 1) (tree_eq t (tree_of k i))
          (λ e. omega arith),
      none_before k (i + 1) x cs t (omega arith),
    )

pub no_count : (b : Bool) (c : ℕ) → c ≡ 0 → cond b c 0 ≡ 0
no_count true c e = e
no_count false c e = refl

count-listed : (k : Known) (i j : ℕ) (cs : List ℕ) (t : Tree)
    → count_by (entry_eq (record { number = i + j; tree = t })) (listed k i cs)
    ≡ cond (tree_eq t (tree_of k (i + j))) (get_or cs j 0 - 1) 0
count-listed k i j [] t = sym (no_count (tree_eq t (tree_of k (i + j))) (get_or [] j 0 - 1) refl)
count-listed k i zero (c ∷ cs) t =
    let z : i + 0 ≡ i = omega arith in
    rw z (listed-cons k i c cs (record { number = i; tree = t })
    ∙ omega (
      arith,
      same_number i (c - 1) (tree_eq t (tree_of k i)),
      none_before k (i + 1) i cs
          t (omega arith),
    ))
count-listed k i (suc j) (c ∷ cs) t =
    let z : i + 1 + j ≡ i + suc j = omega arith in
    let ih = rw z at (count-listed k (i + 1) j cs t) in
    listed-cons k i c cs (record { number = i + suc j; tree = t })
    ∙ omega (
      arith,
      other_number (i + suc j) i (c - 1) (tree_eq t (tree_of k i))
          (λ e. omega arith),
      ih,
    )

-- how often an entry is listed
pub listed_stands : (k : Known) (cs : List ℕ) (e : Entry) → count_by (entry_eq e) (listed k 0 cs)
    ≡ stands k e (refs_of cs e.number)
listed_stands k cs e = let z : 0 + e.number ≡ e.number = omega arith in
    rw z at (count-listed k 0 e.number cs e.tree)

-- how often an entry is held
pub copies_are : (n : ℕ) (k : Known) (cs : List ℕ) (e : Entry) → copies (holding_of n k cs) e
    ≡ cond (nat_lt e.number 2) 1 0 + stands k e (refs_of cs e.number)
unfolding copies holding_of
copies_are n k cs e = ap (λ (m : ℕ). cond (nat_lt e.number 2) 1 0 + m) (listed_stands k cs e)

-- the same references stand on names with the same trees
pub keeps : (n m : ℕ) (k l : Known) (cs ds : List ℕ) → m ≡ n → SameReferences cs ds
    → ((x : ℕ) → 0 < refs_of cs x → tree_of l x ≡ tree_of k x)
    → Keeps (holding_of n k cs) (holding_of m l ds)
unfolding holding_of
keeps n m k l cs ds same refs trees = record {
  variables = same;
  held = λ e. copies_are m l ds e
      ∙ (omega (arith, one e (refs_of cs e.number) refl) ∙ sym (copies_are n k cs e));
}
  where
    one : (e : Entry) (r : ℕ) → refs_of cs e.number ≡ r → stands l e (refs_of ds e.number)
        ≡ stands k e (refs_of cs e.number)
    one e zero z = no_count (tree_eq e.tree (tree_of l e.number)) (refs_of ds e.number)
        (refs e.number ∙ z) ∙ sym (no_count (tree_eq e.tree (tree_of k e.number))
        (refs_of cs e.number) z)
    one e (suc r) z = rw (refs e.number, trees e.number (omega arith)) refl

by_one : (b : Bool) (c d : ℕ) → d ≡ c + 1 → cond b d 0 ≡ cond b c 0 + cond b 1 0
by_one true c d e = omega arith
by_one false c d e = omega arith

weight_node : (x : ℕ) (t : Tree) (e : Entry) → 2 ≤ x → weight (record { number = x; tree = t }) e
    ≡ cond (nat_eq e.number x && tree_eq e.tree t) 1 0
unfolding weight
weight_node x t e two = rw (le-ltb x 2 two) refl

pub weight_constant : (x : ℕ) (t : Tree) (e : Entry) → x < 2
    → weight (record { number = x; tree = t }) e ≡ 0
unfolding weight
weight_constant x t e small = rw (lt-ltb x 2 small) refl

-- one reference more stands on the name x
pub one_more : (n : ℕ) (k : Known) (cs ds : List ℕ) (x : ℕ) → 2 ≤ x → refs_of ds x ≡ refs_of cs x
    + 1 →
    ((y : ℕ) → y ≢ x → refs_of ds y ≡ refs_of cs y) → (e : Entry) →
    copies (holding_of n k ds) e ≡ copies (holding_of n k cs) e + weight (entry_in k x) e
one_more n k cs ds x two more others e = copies_are n k ds e
    ∙ omega (
      arith,
      copies_are n k cs e,
      weight_node x (tree_of k x) e two,
      go (ℕ_discrete e.number x),
    )
  where
    go : Dec (e.number ≡ x) → stands k e (refs_of ds e.number) ≡ stands k e (refs_of cs e.number)
        + cond (nat_eq e.number x && tree_eq e.tree (tree_of k x)) 1 0
    go (yes at) = rw at (omega (
      arith,
      by_one (tree_eq e.tree (tree_of k x)) (refs_of cs x)
          (refs_of ds x) more,
      same_number x 1 (tree_eq e.tree (tree_of k x)),
    ))
    go (no d) = rw (others e.number d)
        (omega (arith, other_number e.number x 1 (tree_eq e.tree (tree_of k x)) d))

pub gains_node : (n : ℕ) (k : Known) (cs ds : List ℕ) (x : ℕ) → 2 ≤ x → refs_of ds x ≡ refs_of cs x
    + 1 →
    ((y : ℕ) → y ≢ x → refs_of ds y ≡ refs_of cs y) → Gains (holding_of n k cs) (holding_of n k ds)
    (entry_in k x) (says (entry_in k x))
unfolding holding_of
gains_node n k cs ds x two more others = record {
  variables = refl;
  held =
      one_more n k cs ds x two more others;
  function = λ a. refl;
}

pub gains_constant : (n : ℕ) (k : Known) (cs : List ℕ) (x : ℕ) → x < 2
    → Gains (holding_of n k cs) (holding_of n k cs) (entry_in k x) (says (entry_in k x))
gains_constant n k cs x small = record {
  variables = refl;
  held =
      λ e. omega (arith, weight_constant x (tree_of k x) e small);
  function = λ a. refl;
}

pub loses_node : (n : ℕ) (k : Known) (cs ds : List ℕ) (x : ℕ) (t : Tree) → t ≡ tree_of k x → 2 ≤ x
    → refs_of cs x ≡ refs_of ds x + 1 →
    ((y : ℕ) → y ≢ x → refs_of cs y ≡ refs_of ds y) → Loses (holding_of n k cs) (holding_of n k ds)
    (record { number = x; tree = t })
unfolding holding_of
loses_node n k cs ds x t is two less others = record {
  variables = refl;
  held =
      λ e. rw is (sym (one_more n k ds cs x two less others e));
}

pub loses_constant : (n : ℕ) (k : Known) (cs : List ℕ) (x : ℕ) (t : Tree) → x < 2
    → Loses (holding_of n k cs) (holding_of n k cs) (record { number = x; tree = t })
loses_constant n k cs x t small = record {
  variables = refl;
  held =
      λ e. omega (arith, weight_constant x t e small);
}

-- an entry that is held: references stand on its name, and its tree is the name's
pub record IsReferred (k : Known) (cs : List ℕ) (x : ℕ) (t : Tree) : Type 0 where
  pub tree : t ≡ tree_of k x
  pub refs : 2 ≤ x → 0 < refs_of cs x

referred_by : (b : Bool) (c : ℕ) → 0 < cond b c 0 → (b ≡ true) × (0 < c)
referred_by true c h = (refl, h)
referred_by false c h = absurd (omega arith)

-- a reference's entry
pub referred : (n : ℕ) (k then : Known) (cs : List ℕ) (x : ℕ)
    → IsIn (holding_of n k cs) (entry_in then x) → IsReferred k cs x (tree_of then x)
referred n k then cs x h = elim (dec_le 2 x) [
  | yes two ↦
      let z : cond {A = ℕ} (nat_lt x 2) 1 0 ≡ 0 = ap (λ (b : Bool). cond {A = ℕ} b 1 0)
      (le-ltb x 2 two) in
      let c : copies (holding_of n k cs) (entry_in then x) ≡ cond (nat_lt x 2) 1 0
      + cond (tree_eq (tree_of then x) (tree_of k x)) (refs_of cs x) 0 =
      copies_are n k cs (entry_in then x) in
      let p = referred_by (tree_eq (tree_of then x) (tree_of k x)) (refs_of cs x)
      (omega (arith, h, z, c)) in
      record { tree = tree_eq-true (tree_of then x) (tree_of k x) p.0; refs = λ _. p.1 }
  | no m ↦ constant x (omega arith)
]
  where
    constant : (x : ℕ) → x < 2 → IsReferred k cs x (tree_of then x)
    constant zero small = record { tree = refl; refs = λ two. absurd (omega arith) }
    constant (suc zero) small = record { tree = refl; refs = λ two. absurd (omega arith) }
    constant (suc (suc x)) small = absurd (omega arith)

-- its copies are its references
pub copies_name : (n : ℕ) (k : Known) (cs : List ℕ) (x : ℕ) → 2 ≤ x
    → copies (holding_of n k cs) (entry_in k x) ≡ refs_of cs x
copies_name n k cs x two = copies_are n k cs (entry_in k x)
    ∙ rw (le-ltb x 2 two, tree_eq_self (tree_of k x)) (omega arith)

-- a count that is there
pub counted_within : (cs : List ℕ) (x : ℕ) → 0 < get_or cs x 0 → x < length cs
counted_within cs x some = elim (dec_le (suc x) (length cs)) [
  | yes h ↦ omega arith
  | no m ↦
      absurd (let past = get_or_past cs x 0 (omega arith) in omega arith)
]

-- a count that changes, and stays above 0
pub has_recounted : (n : ℕ) (s : Standing) (cs : List ℕ) (x m : ℕ) → 2 ≤ x → 0 < get_or cs x 0
    → 0 < m → Has [] n s cs → Has [] n s (set cs x m)
has_recounted n s cs x m two some more h = record {
  rest = h.rest;
  cells = h.cells;
  range = h.range;
  constants = λ y small. get_or-set_other cs x y m 0 (λ e. absurd (omega arith))
      ∙ h.constants y small;
  once = λ y up. omega (arith, h.once y up, one y (ℕ_discrete x y));
}
  where
    one : (y : ℕ) → Dec (x ≡ y) → min 1 (get_or cs y 0) ≡ min 1 (get_or (set cs x m) y 0)
    one y (yes e) = subst (λ (z : ℕ). min 1 (get_or cs z 0) ≡ min 1 (get_or (set cs x m) z 0)) e
        (omega (arith, get_or-set_same cs x m 0 (counted_within cs x some)))
    one y (no d) = omega (arith, get_or-set_other cs x y m 0 (λ e. d (sym e)))

-- a name that is held, and no constant, has a count
pub counted_some : (n : ℕ) (s : Standing) (cs : List ℕ) (x : ℕ) → Has [] n s cs → 2 ≤ x
    → IsHeld s.known.core x → 0 < get_or cs x 0
counted_some n s cs x h two held = go (held_counted h x held)
  where
    go : IsCounted cs x → 0 < get_or cs x 0
    go (inl small) = absurd (omega arith)
    go (inr some) = some

-- the count that was read
module _ (n : ℕ) (s : Standing) (cs : List ℕ) (x m : ℕ) (h : Has [] n s cs) (two : 2 ≤ x) (some : 0
    < get_or cs x 0) (read : m ≡ get_or cs x m) where
  pub read_is : m ≡ get_or cs x 0
  read_is = read ∙ get_or_default cs x m 0 (counted_within cs x some)

  others : (c y : ℕ) → y ≢ x → refs_of (set cs x c) y ≡ refs_of cs y
  others c y d = ap (λ (z : ℕ). z - 1) (get_or-set_other cs x y c 0 d)

  here : (c : ℕ) → refs_of (set cs x c) x ≡ c - 1
  here c = ap (λ (z : ℕ). z - 1) (get_or-set_same cs x c 0 (counted_within cs x some))

  pub refers_has : Has [] n s (set cs x (m + 1))
  refers_has = has_recounted n s cs x (m + 1) two some (omega arith) h

  pub refers_gains : (then : Standing) → then ≡ s
      → Gains (holding_of n s.known cs) (holding_of n s.known (set cs x (m + 1)))
      (entry_in then.known x) (says (entry_in s.known x))
  refers_gains then is = rw is (gains_node n s.known cs (set cs x (m + 1)) x two (here (m + 1)
      ∙ omega (arith, read_is)) (others (m + 1)))

  pub refers_full : 2 ^ 32 - 1 < m → 2 ^ 32 - 1 ≤ copies (holding_of n s.known cs)
      (entry_in s.known x)
  refers_full full = omega (arith, copies_name n s.known cs x two, read_is)

  module _ (refs : 0 < refs_of cs x) where
    pub releases_some : 1 ≤ m
    releases_some = omega (arith, read_is)

    pub releases_has : Has [] n s (set cs x (m - 1))
    releases_has = has_recounted n s cs x (m - 1) two some (omega (arith, read_is)) h

    pub releases_loses : (t : Tree) → t ≡ tree_of s.known x
        → Loses (holding_of n s.known cs) (holding_of n s.known (set cs x (m - 1)))
        (record { number = x; tree = t })
    releases_loses t is = loses_node n s.known cs (set cs x (m - 1)) x t is two
        (omega (arith, here (m - 1), read_is)) (λ y d. sym (others (m - 1) y d))

-- a name with references has a count
pub counted_of : (cs : List ℕ) (x : ℕ) → 0 < refs_of cs x → 0 < get_or cs x 0
counted_of cs x h = omega arith

-- a name has no more references than its entry has copies
pub refs_le : (n : ℕ) (k : Known) (cs : List ℕ) (x : ℕ) → refs_of cs x ≤ copies (holding_of n k cs)
    (entry_in k x)
refs_le n k cs x =
    let whole : stands k (entry_in k x) (refs_of cs x) ≡ refs_of cs x =
    rw (tree_eq_self (tree_of k x)) refl in
    omega (arith, copies_are n k cs (entry_in k x), whole)

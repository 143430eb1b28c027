-- The list without the first of a name, as a search for its place finds it.
use Rattle.std.proofs.Common.{◌≡◌, ◌≢◌, ℕ, suc, ◌+◌, ◌<◌, ◌≤◌, Bool, true, false, ◌==◌, List, []}
use Rattle.std.proofs.Common.{◌∷◌, eqb, cond, Some, None, eq-eqb, ne_eqb, refl, ap, ◌∙◌, arith}
use Rattle.std.specs.List.{position_from, remove}
use Rattle.std.specs.Bool.{IsTrue}
use mathlib.Core.Bool.{not}
use native.Mathlib.Decide.{ℕ_discrete, dec_le}
use Rattle.std.proofs.lemmas.List.Sums.{sum_by-cons}
use Rattle.eqc_core.specs.Moves.{without}
use Rattle.eqc_core.specs.Tables.{Entries, table_has, table_word}
use Rattle.eqc_core.specs.Making.{without_slot}

found_at : (x i : ℕ) (xs : List ℕ) (j : ℕ) → position_from (λ y. y == x) i xs ≡ Some j → (k : ℕ)
    × (j ≡ i + k) × (remove xs k ≡ without x xs)
found_at x i [] j e = absurd (cc)
found_at x i (y ∷ ys) j e = go (ℕ_discrete y x) (found_at x (i + 1) ys j) e
  where
    go : Dec (y ≡ x) → (position_from (λ y. y == x) (i + 1) ys ≡ Some j → (k : ℕ) × (j ≡ i + 1 + k)
        × (remove ys k ≡ without x ys)) →
        cond (eqb y x) (Some i) (position_from (λ y. y == x) (i + 1) ys) ≡ Some j
        → (k : ℕ) × (j ≡ i + k) × (remove (y ∷ ys) k ≡ without x (y ∷ ys))
    go (yes is) rest e = let s : Some i ≡ Some j = rw (eq-eqb y x is) at e in
        (0, (let q : i ≡ j = cc in omega arith), rw (eq-eqb y x is) refl)
    go (no n) rest e = let r = rest (rw (ne_eqb y x n) at e) in
        (suc r.0, (let q = r.1 in omega arith), rw (ne_eqb y x n) (ap (λ (l : List ℕ). y ∷ l) r.2))

pub removed : (x : ℕ) (xs : List ℕ) (j : ℕ) → position_from (λ y. y == x) 0 xs ≡ Some j
    → remove xs j ≡ without x xs
removed x xs j e = let f = found_at x 0 xs j e in ap (remove xs) (let q = f.1 in omega arith) ∙ f.2

absent_from : (x i : ℕ) (xs : List ℕ) → position_from (λ y. y == x) i xs ≡ None → without x xs ≡ xs
absent_from x i [] e = refl
absent_from x i (y ∷ ys) e = go (ℕ_discrete y x) (absent_from x (i + 1) ys) e
  where
    go : Dec (y ≡ x) → (position_from (λ y. y == x) (i + 1) ys ≡ None → without x ys ≡ ys)
        → cond (eqb y x) (Some i) (position_from (λ y. y == x) (i + 1) ys) ≡ None
        → without x (y ∷ ys) ≡ y ∷ ys
    go (yes is) rest e = absurd (let s : Some i ≡ None = rw (eq-eqb y x is) at e in cc)
    go (no n) rest e = rw (ne_eqb y x n) (ap (λ (l : List ℕ). y ∷ l)
        (rest (rw (ne_eqb y x n) at e)))

pub absent : (x : ℕ) (xs : List ℕ) → position_from (λ y. y == x) 0 xs ≡ None → without x xs ≡ xs
absent x xs e = absent_from x 0 xs e

-- how often a table has a slot, or a node word, with one entry more
has_cons : (x : ℕ) (e : ℕ × ℕ) (t : Entries) → table_has x (e ∷ t) ≡ cond (eqb e.1 x) 1 0
    + table_has x t
unfolding table_has
has_cons x e t = sum_by-cons (λ (k : ℕ × ℕ). cond {A = ℕ} (eqb k.1 x) 1 0) e t

word_cons : (word : ℕ) (e : ℕ × ℕ) (t : Entries) → table_word word (e ∷ t) ≡ cond (eqb e.0 word) 1 0
    + table_word word t
unfolding table_word
word_cons word e t = sum_by-cons (λ (k : ℕ × ℕ). cond {A = ℕ} (eqb k.0 word) 1 0) e t

has_nil : (x : ℕ) → table_has x [] ≡ 0
unfolding table_has
has_nil x = refl

word_nil : (word : ℕ) → table_word word [] ≡ 0
unfolding table_word
word_nil word = refl

one_if : (a b : ℕ) → a ≡ b → cond {A = ℕ} (eqb a b) 1 0 ≡ 1
one_if a b e = rw (eq-eqb a b e) refl

none_if : (a b : ℕ) → a ≢ b → cond {A = ℕ} (eqb a b) 1 0 ≡ 0
none_if a b n = rw (ne_eqb a b n) refl

-- what a search for a slot's place found
found_slot_at : (x i : ℕ) (t : Entries) (j : ℕ) → position_from (λ (e : ℕ × ℕ). e.1 == x) i t
    ≡ Some j → (k : ℕ) × (j ≡ i + k) × (remove t k ≡ without_slot x t) × (0 < table_has x t)
found_slot_at x i [] j e = absurd (cc)
found_slot_at x i (y ∷ ys) j e = go (ℕ_discrete y.1 x) (found_slot_at x (i + 1) ys j) e
  where
    go : Dec (y.1 ≡ x) → (position_from (λ (e : ℕ × ℕ). e.1 == x) (i + 1) ys ≡ Some j → (k : ℕ)
        × (j ≡ i + 1 + k) × (remove ys k ≡ without_slot x ys) × (0 < table_has x ys))
        → cond (eqb y.1 x) (Some i) (position_from (λ (e : ℕ × ℕ). e.1 == x) (i + 1) ys) ≡ Some j
        → (k : ℕ) × (j ≡ i + k) × (remove (y ∷ ys) k ≡ without_slot x (y ∷ ys))
        × (0 < table_has x (y ∷ ys))
    go (yes is) rest e = let s : Some i ≡ Some j = rw (eq-eqb y.1 x is) at e in (
      0,
      (let q : i ≡ j = cc in omega arith),
      rw (eq-eqb y.1 x is) refl,
      omega (arith, has_cons x y ys, one_if y.1 x is),
    )
    go (no n) rest e =
        let r = rest (rw (ne_eqb y.1 x n) at e) in
        let more = r.3 in (
          suc r.0,
          (let q = r.1 in omega arith),
          rw (ne_eqb y.1 x n) (ap (λ (l : Entries). y ∷ l)
              r.2),
          omega (arith, has_cons x y ys),
        )

pub found_slot : (x : ℕ) (t : Entries) (j : ℕ) → position_from (λ (e : ℕ × ℕ). e.1 == x) 0 t
    ≡ Some j → (remove t j ≡ without_slot x t) × (0 < table_has x t)
found_slot x t j e = let f = found_slot_at x 0 t j e in (
  ap (remove t) (let q = f.1 in omega arith)
      ∙ f.2,
  f.3,
)

no_slot_from : (x i : ℕ) (t : Entries) → position_from (λ (e : ℕ × ℕ). e.1 == x) i t ≡ None
    → (without_slot x t ≡ t) × (table_has x t ≡ 0)
no_slot_from x i [] e = (refl, has_nil x)
no_slot_from x i (y ∷ ys) e = go (ℕ_discrete y.1 x) (no_slot_from x (i + 1) ys) e
  where
    go : Dec (y.1 ≡ x) → (position_from (λ (e : ℕ × ℕ). e.1 == x) (i + 1) ys ≡ None
        → (without_slot x ys ≡ ys) × (table_has x ys ≡ 0)) →
        cond (eqb y.1 x) (Some i) (position_from (λ (e : ℕ × ℕ). e.1 == x) (i + 1) ys) ≡ None
        → (without_slot x (y ∷ ys) ≡ y ∷ ys) × (table_has x (y ∷ ys) ≡ 0)
    go (yes is) rest e = absurd (let s : Some i ≡ None = rw (eq-eqb y.1 x is) at e in cc)
    go (no n) rest e =
        let r = rest (rw (ne_eqb y.1 x n) at e) in
        let none = r.1 in (
          rw (ne_eqb y.1 x n) (ap (λ (l : Entries). y ∷ l) r.0),
          omega (
            arith,
            has_cons x y ys,
            none_if y.1 x n,
          ),
        )

pub no_slot : (x : ℕ) (t : Entries) → position_from (λ (e : ℕ × ℕ). e.1 == x) 0 t ≡ None
    → (without_slot x t ≡ t) × (table_has x t ≡ 0)
no_slot x t e = no_slot_from x 0 t e

-- what a search for a node word's place found
found_word_at : (word i : ℕ) (t : Entries) (j : ℕ) → position_from (λ (e : ℕ × ℕ). e.0 == word) i t
    ≡ Some j → 0 < table_word word t
found_word_at word i [] j e = absurd (cc)
found_word_at word i (y ∷ ys) j e = go (ℕ_discrete y.0 word) (found_word_at word (i + 1) ys j) e
  where
    go : Dec (y.0 ≡ word) → (position_from (λ (e : ℕ × ℕ). e.0 == word) (i + 1) ys ≡ Some j
        → 0 < table_word word ys) →
        cond (eqb y.0 word) (Some i) (position_from (λ (e : ℕ × ℕ). e.0 == word) (i + 1) ys)
        ≡ Some j
        → 0 < table_word word (y ∷ ys)
    go (yes is) rest e = omega (arith, word_cons word y ys, one_if y.0 word is)
    go (no n) rest e = let r = rest (rw (ne_eqb y.0 word n) at e) in
        omega (arith, word_cons word y ys)

pub found_word : (word : ℕ) (t : Entries) (j : ℕ) → position_from (λ (e : ℕ × ℕ). e.0 == word) 0 t
    ≡ Some j → 0 < table_word word t
found_word word t j e = found_word_at word 0 t j e

no_word_from : (word i : ℕ) (t : Entries) → position_from (λ (e : ℕ × ℕ). e.0 == word) i t ≡ None
    → table_word word t ≡ 0
no_word_from word i [] e = word_nil word
no_word_from word i (y ∷ ys) e = go (ℕ_discrete y.0 word) (no_word_from word (i + 1) ys) e
  where
    go : Dec (y.0 ≡ word) → (position_from (λ (e : ℕ × ℕ). e.0 == word) (i + 1) ys ≡ None
        → table_word word ys ≡ 0) →
        cond (eqb y.0 word) (Some i) (position_from (λ (e : ℕ × ℕ). e.0 == word) (i + 1) ys) ≡ None
        → table_word word (y ∷ ys) ≡ 0
    go (yes is) rest e = absurd (let s : Some i ≡ None = rw (eq-eqb y.0 word is) at e in cc)
    go (no n) rest e = let r = rest (rw (ne_eqb y.0 word n) at e) in
        omega (arith, word_cons word y ys, none_if y.0 word n)

pub no_word : (word : ℕ) (t : Entries) → position_from (λ (e : ℕ × ℕ). e.0 == word) 0 t ≡ None
    → table_word word t ≡ 0
no_word word t e = no_word_from word 0 t e

-- what is found nowhere stands nowhere
pub none_there : (b : Bool) (k : ℕ) → (IsTrue b → 0 < k) → (0 < k → IsTrue b)
    → (IsTrue (not b) → k ≡ 0) × (k ≡ 0 → IsTrue (not b))
none_there true k p q = ((λ t. absurd (cc)), (λ z. absurd (let a = p refl in omega arith)))
none_there false k p q = ((λ t. go (dec_le 1 k)), (λ z. refl))
  where
    go : Dec (1 ≤ k) → k ≡ 0
    go (yes h) = absurd (let a = q h in cc)
    go (no n) = omega arith

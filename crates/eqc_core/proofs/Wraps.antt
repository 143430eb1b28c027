-- No count word wraps: there are no more entries in the tables than slots, since each slot is an
-- entry once.
use Rattle.std.proofs.Common.{◌≡◌, ℕ, zero, suc, ◌+◌, ◌*◌, ◌^◌, ◌<◌, ◌≤◌, List, [], ◌∷◌, length}
use Rattle.std.proofs.Common.{get_or, sum_by, eqb, ltb, cond, Bool, true, false, Option, Some, None}
use Rattle.std.proofs.Common.{eq-eqb, ne_eqb, refl, ap, arith, inl, inr}
use Rattle.std.proofs.lemmas.Bool.{lt-ltb, le-ltb}
use Rattle.std.proofs.lemmas.List.Sums.{sum_by-cons}
use mathlib.Core.Option as May
use mathlib.Core.Option.{some, none}
use native.Mathlib.Decide.{ℕ_discrete, dec_le}
use lib.ListN.{get_elem?}
use Rattle.eqc_core.specs.declared.sizes.Sizes.{Sizes}
use Rattle.eqc_core.specs.View.{View, Hand}
use Rattle.eqc_core.specs.Words.{Words, times, children, cell_names}
use Rattle.eqc_core.specs.Tables.{Homes, Entries, tabled, in_hand, at_home, table_names, table_has}
use Rattle.eqc_core.specs.Tables.{IsTable}
use Rattle.eqc_core.specs.Owners.{owned, in_words}
use Rattle.eqc_core.specs.Lawful.{Lawful}
use Rattle.eqc_core.proofs.Sums.{sum_apart, sum_zero, sum_at_most}
use Rattle.eqc_core.proofs.Names.{times_le}
use Rattle.eqc_core.proofs.Tables.{owned_is, has_le, table_tabled}
use Rattle.eqc_core.proofs.Known.{inactive_has_none}

-- the entries whose slot is below n
unfoldable below : ℕ → Entries → ℕ
below n t = sum_by (λ e. cond (ltb e.1 n) 1 0) t

one_suc : (n x : ℕ) → Dec (x ≡ n) → Dec (n ≤ x) → cond {A = ℕ} (ltb x (suc n)) 1 0
    ≡ cond (ltb x n) 1 0 + cond (eqb x n) 1 0
one_suc n x (yes e) d = rw (lt-ltb x (suc n) (omega arith), le-ltb x n (omega arith), eq-eqb x n e)
    refl
one_suc n x (no m) (yes le) = rw (le-ltb x (suc n) (omega arith), le-ltb x n le, ne_eqb x n m) refl
one_suc n x (no m) (no lt) = rw (
  lt-ltb x (suc n) (omega arith),
  lt-ltb x n (omega arith),
  ne_eqb x n m,
) refl

below_suc : (n : ℕ) (t : Entries) → below (suc n) t ≡ below n t + table_has n t
unfolding below table_has
below_suc n [] = refl
below_suc n (e ∷ es) =
    omega (
      arith,
      sum_by-cons (λ (e : ℕ × ℕ). cond {A = ℕ} (ltb e.1 (suc n)) 1 0) e es,
      sum_by-cons (λ (e : ℕ × ℕ). cond {A = ℕ} (ltb e.1 n) 1 0) e es,
      sum_by-cons (λ (e : ℕ × ℕ). cond {A = ℕ} (eqb e.1 n) 1 0) e es,
      below_suc n es,
      one_suc n e.1 (ℕ_discrete e.1 n) (dec_le n e.1),
    )

below_zero : (t : Entries) → below 0 t ≡ 0
unfolding below
below_zero [] = refl
below_zero (e ∷ es) = let z = ap {B = ℕ} (λ (b : Bool). cond b 1 0) (le-ltb e.1 0 (omega arith)) in
    omega (arith, sum_by-cons (λ (e : ℕ × ℕ). cond {A = ℕ} (ltb e.1 0) 1 0) e es, below_zero es)

sum_triple : {A : Type 0} (f g : A → ℕ) (l : List A) → ((i : ℕ) (a : A) → get_elem? l i ≡ some a
    → f a ≤ 3 * g a) → sum_by f l ≤ 3 * sum_by g l
sum_triple f g [] h = omega arith
sum_triple f g (x ∷ xs) h = let a = h 0 x refl in
    omega (
      arith,
      sum_by-cons f x xs,
      sum_by-cons g x xs,
      sum_triple f g xs (λ i b e. h (suc i) b e),
    )

abbrev all : (Entries → ℕ) → Homes → List View → ℕ
all f hs vs = sum_by (λ v. in_hand f v.hand) vs + sum_by (at_home f) hs

hand_suc : (n : ℕ) (h : Option Hand) → in_hand (below (suc n)) h ≡ in_hand (below n) h
    + in_hand (table_has n) h
hand_suc n None = refl
hand_suc n (Some h) = below_suc n h.entries

home_suc : (n : ℕ) (h : May.Option Entries) → at_home (below (suc n)) h ≡ at_home (below n) h
    + at_home (table_has n) h
home_suc n none = refl
home_suc n (some t) = below_suc n t

hand_zero : (h : Option Hand) → in_hand (below 0) h ≡ 0
hand_zero None = refl
hand_zero (Some h) = below_zero h.entries

home_zero : (h : May.Option Entries) → at_home (below 0) h ≡ 0
home_zero none = refl
home_zero (some t) = below_zero t

all_below : (hs : Homes) (vs : List View) → ((x : ℕ) → tabled hs vs x ≤ 1) → (n : ℕ)
    → all (below n) hs vs ≤ n
all_below hs vs once zero = omega (
  arith,
  sum_zero (λ (v : View). in_hand (below 0) v.hand)
      (λ v. hand_zero v.hand) vs,
  sum_zero (at_home (below 0)) home_zero hs,
)
all_below hs vs once (suc n) = omega (
  arith,
  all_below hs vs once n,
  once n,
  sum_apart (λ (v : View). in_hand (below (suc n)) v.hand) (λ v. in_hand (below n) v.hand)
      (λ v. in_hand (table_has n) v.hand) (λ v. hand_suc n v.hand) vs,
  sum_apart (at_home (below (suc n))) (at_home (below n)) (at_home (table_has n)) (home_suc n) hs,
)

entry_names : (x : ℕ) (e : ℕ × ℕ) → times x (e.1 ∷ children e.0) ≤ 3
entry_names x e = times_le x (e.1 ∷ children e.0)

table_triple : (x n : ℕ) (t : Entries) → ((i : ℕ) (e : ℕ × ℕ) → get_elem? t i ≡ some e → e.1 < n)
    → table_names x t ≤ 3 * below n t
unfolding table_names below
table_triple x n t h =
    sum_triple (λ e. times x (e.1 ∷ children e.0)) (λ (e : ℕ × ℕ). cond {A = ℕ} (ltb e.1 n) 1 0) t
    (λ i e at. let o = ap {B = ℕ} (λ (b : Bool). cond b 1 0) (lt-ltb e.1 n (h i e at)) in
    omega (arith, entry_names x e))

module _ (z : Sizes) (w : Words) (hs : Homes) (vs : List View) (x : ℕ) (law : Lawful z w hs vs)
  where
    of_table : (s : ℕ) (t : Entries) → IsTable hs vs s t → table_names x t ≤ 3 * below z.names t
    of_table s t is = table_triple x z.names t (λ i e at. (law.tables.named e.1 (let h =
        has_le t i e at in omega (arith, table_tabled hs vs s t e.1 is))).1)

    home_triple : (s : ℕ) (h : May.Option Entries) → get_elem? hs s ≡ some h
        → at_home (table_names x) h ≤ 3 * at_home (below z.names) h
    home_triple s none e = omega arith
    home_triple s (some t) e = of_table s t (inl e)

    hand_triple : (id : ℕ) (v : View) (h : Option Hand) → get_elem? vs id ≡ some v → v.hand ≡ h
        → in_hand (table_names x) h ≤ 3 * in_hand (below z.names) h
    hand_triple id v None e is = omega arith
    hand_triple id v (Some h) e is = of_table h.stripe h.entries (inr (id, v, h, e, is, refl, refl))

    few : sum_by (at_home (table_names x)) hs + sum_by (λ v. in_hand (table_names x) v.hand) vs
        ≤ 3 * z.names
    few = omega (
      arith,
      all_below hs vs (λ y. let h = law.tables.once y in omega arith) z.names,
      sum_triple (at_home (table_names x)) (at_home (below z.names)) hs home_triple,
      sum_triple (λ (v : View). in_hand (table_names x) v.hand) (λ v. in_hand (below z.names) v.hand)
          vs (λ i v e. hand_triple i v v.hand e refl),
    )

-- a view's own names are few
names_fit : (z : Sizes) (w : Words) (hs : Homes) (vs : List View) (x i : ℕ) (v : View)
    → Lawful z w hs vs → get_elem? vs i ≡ some v → (b : Bool) →
    v.active ≡ b → times x v.held + times x v.retired ≤ 2 ^ 41
names_fit z w hs vs x i v law e true on = let f = law.views i v e on in let r = f.room in let k =
    f.few in let l = law.sized.few_announced in
    omega (arith, times_le x v.held, times_le x v.retired)
names_fit z w hs vs x i v law e false off = let none = inactive_has_none z w hs vs law i x v e off
    in omega arith

in_words_few : (x : ℕ) (words : List ℕ) → in_words x words ≤ length words * 3
unfolding in_words
in_words_few x words = sum_at_most (λ n. times x (cell_names n)) 3 words
    (λ i n e. times_le x (cell_names n))

-- no count word wraps
pub count_fits : (z : Sizes) (w : Words) (hs : Homes) (vs : List View) (x : ℕ) → Lawful z w hs vs
    → 2 ≤ x → x < z.names → get_or w.counts x 0 + 1 < 2 ^ 64
count_fits z w hs vs x law two lt =
    let views = sum_at_most (λ (v : View). times x v.held + times x v.retired) (2 ^ 41) vs
    (λ i v e. names_fit z w hs vs x i v law e v.active refl) in
    let parts = sum_apart (owned x) (λ (v : View). times x v.held + times x v.retired)
    (λ v. in_hand (table_names x) v.hand) (λ v. omega (arith, owned_is x v)) vs in
    let s = law.sized in
    let many : length vs * 2 ^ 41 ≤ 2 ^ 20 * 2 ^ 41 = omega (arith, s.views, s.few_workers) in
    let cells : length w.cells ≤ 2 ^ 20 = omega (arith, s.cells, s.few_cells) in
    let boxes : length w.boxes ≤ 2 ^ 24 = omega (arith, s.boxes, s.few_workers) in
    let tables : sum_by (at_home (table_names x)) hs + sum_by (λ v. in_hand (table_names x) v.hand)
    vs ≤ 3 * 2 ^ 20 = omega (arith, few z w hs vs x law, s.few_names) in
    omega (
      arith,
      law.counted.counts x two lt,
      law.tables.once x,
      in_words_few x w.cells,
      in_words_few x w.boxes,
    )

-- The tables: where a slot is an entry, and that what a table names is owned.
use Rattle.std.proofs.Common.{◌≡◌, ℕ, ◌+◌, ◌<◌, ◌≤◌, List, ◌∷◌, get_or, sum_by, eqb, cond, Bool}
use Rattle.std.proofs.Common.{Option, Some, None, eq-eqb, ne_eqb, refl, sym, ap, subst, ◌∙◌, arith}
use Rattle.std.proofs.Common.{inl, inr}
use mathlib.Core.Option as May
use mathlib.Core.Option.{some, none}
use native.Mathlib.Decide.{ℕ_discrete, dec_le}
use lib.ListN.{get_elem?}
use Rattle.eqc_core.specs.declared.sizes.Sizes.{Sizes}
use Rattle.eqc_core.specs.View.{View, Hand}
use Rattle.eqc_core.specs.Words.{Words, times, children, low_of, high_of, cell_names, result_of}
use Rattle.eqc_core.specs.Tables.{Homes, Entries, tabled, in_hand, at_home, table_names, table_has}
use Rattle.eqc_core.specs.Tables.{IsTable}
use Rattle.eqc_core.specs.Owners.{owned, owners, in_words}
use Rattle.eqc_core.specs.Support.{Supported}
use Rattle.eqc_core.specs.Lawful.{Lawful}
use Rattle.eqc_core.proofs.Sums.{at_le_sum, sum_some}
use Rattle.eqc_core.proofs.Names.{times_more, times-same}

pub owned_is : (x : ℕ) (v : View) → owned x v ≡ times x v.held
    + (times x v.retired + in_hand (table_names x) v.hand)
unfolding owned
owned_is x v = refl

cond_eq : (a b : ℕ) → 0 < cond {A = ℕ} (eqb a b) 1 0 → a ≡ b
cond_eq a b h = go (ℕ_discrete a b)
  where
    go : Dec (a ≡ b) → a ≡ b
    go (yes e) = e
    go (no n) = absurd (let z = ap {B = ℕ} (λ (p : Bool). cond p 1 0) (ne_eqb a b n) in omega arith)

-- an entry of the slot
pub entry_of : (x : ℕ) (t : Entries) → 0 < table_has x t → (i : ℕ) × (e : ℕ × ℕ)
    × (get_elem? t i ≡ some e) × (e.1 ≡ x)
unfolding table_has
entry_of x t has = let s = sum_some (λ e. cond (eqb e.1 x) 1 0) t has in
    (s.0, s.1, s.2, cond_eq s.1.1 x s.3)

pub names_le : (y : ℕ) (t : Entries) (i : ℕ) (e : ℕ × ℕ) → get_elem? t i ≡ some e
    → times y (e.1 ∷ children e.0) ≤ table_names y t
unfolding table_names
names_le y t i e at = at_le_sum (λ e. times y (e.1 ∷ children e.0)) t i e at

pub has_le : (t : Entries) (i : ℕ) (e : ℕ × ℕ) → get_elem? t i ≡ some e → 0 < table_has e.1 t
unfolding table_has
has_le t i e at = let r = at_le_sum (λ (f : ℕ × ℕ). cond {A = ℕ} (eqb f.1 e.1) 1 0) t i e at in
    let o = ap {B = ℕ} (λ (p : Bool). cond p 1 0) (eq-eqb e.1 e.1 refl) in omega arith

hand_owned : (y : ℕ) (v : View) → in_hand (table_names y) v.hand ≤ owned y v
unfolding owned
hand_owned y v = omega arith

-- a table's names are owned, and its entries tabled
pub table_owned : (w : Words) (hs : Homes) (vs : List View) (s : ℕ) (t : Entries) (y : ℕ)
    → IsTable hs vs s t → table_names y t ≤ owners w hs vs y
table_owned w hs vs s t y (inl e) = let r = at_le_sum (at_home (table_names y)) hs s (some t) e in
    omega arith
table_owned w hs vs s t y (inr p) =
    let r = at_le_sum (owned y) vs p.0 p.1 p.3 in
    let k : in_hand (table_names y) p.1.hand ≡ table_names y t = ap (λ h. in_hand (table_names y) h)
    p.4 ∙ ap (table_names y) p.6 in
    omega (arith, hand_owned y p.1)

pub table_tabled : (hs : Homes) (vs : List View) (s : ℕ) (t : Entries) (y : ℕ) → IsTable hs vs s t
    → table_has y t ≤ tabled hs vs y
table_tabled hs vs s t y (inl e) = let r = at_le_sum (at_home (table_has y)) hs s (some t) e in
    omega arith
table_tabled hs vs s t y (inr p) =
    let r = at_le_sum (λ (v : View). in_hand (table_has y) v.hand) vs p.0 p.1 p.3 in
    let k : in_hand (table_has y) p.1.hand ≡ table_has y t = ap (λ h. in_hand (table_has y) h) p.4
    ∙ ap (table_has y) p.6 in
    omega arith

home_table : (hs : Homes) (vs : List View) (s x : ℕ) (h : May.Option Entries)
    → get_elem? hs s ≡ some h → 0 < at_home (table_has x) h → (t : Entries) × IsTable hs vs s t
    × (0 < table_has x t)
home_table hs vs s x none e has = absurd (omega arith)
home_table hs vs s x (some t) e has = (t, inl e, has)

hand_table : (hs : Homes) (vs : List View) (id x : ℕ) (v : View) (h : Option Hand)
    → get_elem? vs id ≡ some v → v.hand ≡ h →
    0 < in_hand (table_has x) h → (s : ℕ) × (t : Entries) × IsTable hs vs s t × (0 < table_has x t)
hand_table hs vs id x v None e is has = absurd (omega arith)
hand_table hs vs id x v (Some h) e is has = (
  h.stripe,
  h.entries,
  inr (id, v, h, e, is, refl, refl),
  has,
)

-- where a tabled slot is
pub tabled_where : (hs : Homes) (vs : List View) (x : ℕ) → 0 < tabled hs vs x → (s : ℕ)
    × (t : Entries) × IsTable hs vs s t × (0 < table_has x t)
tabled_where hs vs x has = go (dec_le 1 (sum_by (λ v. in_hand (table_has x) v.hand) vs))
  where
    go : Dec (1 ≤ sum_by (λ v. in_hand (table_has x) v.hand) vs) → (s : ℕ) × (t : Entries)
        × IsTable hs vs s t × (0 < table_has x t)
    go (yes h) = let s = sum_some (λ (v : View). in_hand (table_has x) v.hand) vs h in
        hand_table hs vs s.0 x s.1 s.1.hand s.2 refl s.3
    go (no h) = let s = sum_some (at_home (table_has x)) hs (omega arith) in let t =
        home_table hs vs s.0 x s.1 s.2 s.3 in (s.0, t.0, t.1, t.2)

module _ (z : Sizes) (w : Words) (hs : Homes) (vs : List View) (law : Lawful z w hs vs) where
  -- the children of a tabled slot are tabled
  pub child_tabled : (x y : ℕ) → 0 < tabled hs vs x → 2 ≤ y
      → 0 < times y (children (get_or w.nodes x 0)) → 0 < tabled hs vs y
  child_tabled x y tab two child =
      let p = tabled_where hs vs x tab in
      let e = entry_of x p.1 p.3 in
      let word : get_or w.nodes x 0 ≡ e.1.0 = ap (λ (k : ℕ). get_or w.nodes k 0) (sym e.3)
      ∙ (law.tables.entries p.0 p.1 p.2 e.0 e.1 e.2).0 in
      let here : 0 < times y (children e.1.0) = subst (λ (n : ℕ). 0 < times y (children n)) word
      child in
      law.counted.owners_tabled y two (omega (
        arith,
        names_le y p.1 e.0 e.1 e.2,
        times_more y e.1.1 (children e.1.0) here,
        table_owned w hs vs p.0 p.1 y p.2,
      ))

  -- what a view owns is tabled
  pub owned_tabled : (id x : ℕ) (v : View) → get_elem? vs id ≡ some v → 2 ≤ x → 0 < owned x v
      → 0 < tabled hs vs x
  owned_tabled id x v at two own = law.counted.owners_tabled x two (let l =
      at_le_sum (owned x) vs id v at in omega arith)

  pub held_tabled : (id x : ℕ) (v : View) → get_elem? vs id ≡ some v → 2 ≤ x → 0 < times x v.held
      → 0 < tabled hs vs x
  held_tabled id x v at two holds = owned_tabled id x v at two (omega (arith, owned_is x v))

  -- what a box or a cell names is tabled
  pub in_box_tabled : (b x word : ℕ) → get_elem? w.boxes b ≡ some word → 2 ≤ x
      → 0 < times x (cell_names word) → 0 < tabled hs vs x
  unfolding in_words
  in_box_tabled b x word at two named = law.counted.owners_tabled x two (let l =
      at_le_sum (λ n. times x (cell_names n)) w.boxes b word at in omega arith)

  pub in_cell_tabled : (c x word : ℕ) → get_elem? w.cells c ≡ some word → 2 ≤ x
      → 0 < times x (cell_names word) → 0 < tabled hs vs x
  unfolding in_words
  in_cell_tabled c x word at two named = law.counted.owners_tabled x two (let l =
      at_le_sum (λ n. times x (cell_names n)) w.cells c word at in omega arith)

  -- a supported name is tabled
  pub supported_tabled : (i x : ℕ) → 2 ≤ x → Supported w.cells vs i x → 0 < tabled hs vs x
  supported_tabled i x two (inl c) =
      in_cell_tabled c.0 x c.1 c.2 two
      (omega (arith, times-same x (result_of c.1) (Rattle.eqc_core.specs.Words.operands c.1) c.3))
  supported_tabled i x two (inr s) = owned_tabled s.0 x s.1 s.2 two (let k = s.3.0 in
      omega (arith, owned_is x s.1))

-- A confirmed name is owned by its table and by what supports it.
use Rattle.std.proofs.Common.{◌≡◌, ℕ, ◌+◌, ◌<◌, ◌≤◌, List, get_or, sum_by, true, ap, ◌∙◌, arith}
use Rattle.std.proofs.Common.{inl, inr}
use mathlib.Core.Option.{some}
use lib.ListN.{get_elem?}
use Rattle.eqc_core.specs.declared.sizes.Sizes.{Sizes}
use Rattle.eqc_core.specs.declared.phase.Phase.TheVariants.{Confirmed}
use Rattle.eqc_core.specs.View.{View}
use Rattle.eqc_core.specs.Words.{Words, word_at, times, children, cell_names, operands, result_of}
use Rattle.eqc_core.specs.Tables.{Homes, Entries, IsTable, tabled, at_home, in_hand, table_names}
use Rattle.eqc_core.specs.Tables.{table_has}
use Rattle.eqc_core.specs.Owners.{owned, owners, in_words}
use Rattle.eqc_core.specs.Support.{Supported}
use Rattle.eqc_core.specs.Lawful.{Lawful}
use Rattle.eqc_core.proofs.Sums.{at_le_sum, sum_apart}
use Rattle.eqc_core.proofs.Names.{times-same}
use Rattle.eqc_core.proofs.Tables.{owned_is, entry_of, names_le, tabled_where, supported_tabled}

-- a table owns each of its entries
has_names : (x : ℕ) (t : Entries) → 0 < table_has x t → 0 < table_names x t
has_names x t has = let e = entry_of x t has in omega (
  arith,
  names_le x t e.0 e.1 e.2,
  times-same x e.1.1 (children e.1.0) e.3,
)

-- what the tables own, at home and in hand
abbrev table_owners : Homes → List View → ℕ → ℕ
table_owners hs vs x = sum_by (λ v. in_hand (table_names x) v.hand) vs
    + sum_by (at_home (table_names x)) hs

tabled_owned : (hs : Homes) (vs : List View) (x : ℕ) → 0 < tabled hs vs x → 0 < table_owners hs vs x
tabled_owned hs vs x tab = let p = tabled_where hs vs x tab in
    from p.0 p.1 p.2 (has_names x p.1 p.3)
  where
    from : (s : ℕ) (t : Entries) → IsTable hs vs s t → 0 < table_names x t
        → 0 < table_owners hs vs x
    from s t (inl e) some_names = omega (arith, at_le_sum (at_home (table_names x)) hs s (some t) e)
    from s t (inr p) some_names =
        let k : in_hand (table_names x) p.1.hand ≡ table_names x t =
        ap (λ h. in_hand (table_names x) h) p.4 ∙ ap (table_names x) p.6 in
        omega (arith, at_le_sum (λ (v : View). in_hand (table_names x) v.hand) vs p.0 p.1 p.3)

owners_apart : (w : Words) (hs : Homes) (vs : List View) (x : ℕ) →
    owners w hs vs x ≡ sum_by (λ v. times x v.held + times x v.retired) vs
    + (in_words x w.cells + in_words x w.boxes) + table_owners hs vs x
owners_apart w hs vs x =
    let s = sum_apart (owned x) (λ (v : View). times x v.held + times x v.retired)
    (λ v. in_hand (table_names x) v.hand) (λ v. omega (arith, owned_is x v)) vs in
    omega arith

-- a support is an owner that is no table
supported_owned : (w : Words) (vs : List View) (i x : ℕ) → Supported w.cells vs i x
    → 0 < sum_by (λ v. times x v.held + times x v.retired) vs + in_words x w.cells
unfolding in_words
supported_owned w vs i x (inl c) = let l = at_le_sum (λ n. times x (cell_names n)) w.cells c.0 c.1
    c.2 in let r = times-same x (result_of c.1) (operands c.1) c.3 in omega arith
supported_owned w vs i x (inr s) = let l = at_le_sum (λ (v : View). times x v.held
    + times x v.retired) vs s.0 s.1 s.2 in let k = s.3.0 in omega arith

-- the count of a confirmed name is at least 2
pub confirmed_counted : (z : Sizes) (w : Words) (hs : Homes) (vs : List View) → Lawful z w hs vs
    → (id k x : ℕ) (v : View) →
    get_elem? vs id ≡ some v → v.active ≡ true → get_elem? v.phases k ≡ some (Confirmed x)
    → 2 ≤ get_or w.counts x 0
confirmed_counted z w hs vs law id k x v at on is =
    let f = law.views id v at on in
    let n = f.named k (Confirmed x) is in
    let s = f.support k x is in
    let tab = supported_tabled z w hs vs law (word_at z id k) x n.0 s in
    omega (
      arith,
      law.counted.counts x n.0 n.1,
      owners_apart w hs vs x,
      supported_owned w vs (word_at z id k) x s,
      tabled_owned hs vs x tab,
    )

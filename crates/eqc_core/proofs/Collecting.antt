-- A collection leaves every count 0.
use Rattle.std.proofs.Common.{◌≡◌, ℕ, zero, suc, ◌<◌, ◌≤◌, List, [], ◌∷◌, get_or, eqb, cond, Bool}
use Rattle.std.proofs.Common.{true, false, Option, Some, None, refl, sym, ap, subst, ◌∙◌, arith}
use Rattle.std.proofs.Common.{inl, inr, ⊎_elim}
use Rattle.std.proofs.lemmas.Bool.{le-ltb}
use mathlib.Core.Option as May
use mathlib.Core.Option.{some, none}
use native.Mathlib.Decide.{ℕ_discrete, dec_le}
use lib.ListN.{get_elem?}
use Rattle.eqc_core.specs.declared.sizes.Sizes.{Sizes}
use Rattle.eqc_core.specs.View.{View, Hand, unused, spent, view_at}
use Rattle.eqc_core.specs.Words.{Words, times, children, low_of, high_of, variable_of, first_of}
use Rattle.eqc_core.specs.Words.{second_of, result_of, operands, cell_names}
use Rattle.eqc_core.specs.Tables.{Entries, Homes, tabled, in_hand, at_home, table_has, table_names}
use Rattle.eqc_core.specs.Tables.{IsTable}
use Rattle.eqc_core.specs.Trees.{variable_at}
use Rattle.eqc_core.specs.Owners.{owned, owners, drafts, is_draft, in_words}
use Rattle.eqc_core.specs.Lawful.{Lawful}
use Rattle.eqc_core.specs.State.{State, IsLawful}
use Rattle.eqc_core.proofs.Lists.{at_get}
use Rattle.eqc_core.proofs.Sums.{sum_same, sum_zero}
use Rattle.eqc_core.proofs.Names.{times-cons, times-nil, times-other, times_cases}
use Rattle.eqc_core.proofs.Tables.{owned_is, has_le, table_tabled}
use Rattle.eqc_core.specs.Collecting.{IsBare, AllFrom, IsTurn}

zero_result : result_of 0 ≡ 0
unfolding result_of
zero_result = refl

zero_first : first_of 0 ≡ 0
unfolding first_of
zero_first = refl

zero_second : second_of 0 ≡ 0
unfolding second_of
zero_second = refl

-- an empty word names no slot
no_names : (x word : ℕ) → 2 ≤ x → word ≡ 0 → times x (cell_names word) ≡ 0
no_names x word two e = subst (λ (n : ℕ). times x (cell_names n) ≡ 0) (sym e) (omega (
  arith,
  times-other x (result_of 0) (operands 0) (λ e. let k = zero_result in omega arith),
  times-other x (first_of 0) (second_of 0 ∷ []) (λ e. let k = zero_first in omega arith),
  times-other x (second_of 0) [] (λ e. let k = zero_second in omega arith),
  times-nil x,
))

in_no_words : (x : ℕ) (words : List ℕ) → 2 ≤ x → ((i word : ℕ) → get_elem? words i ≡ some word
    → word ≡ 0) → in_words x words ≡ 0
unfolding in_words
in_no_words x words two empty = sum_same (λ n. times x (cell_names n)) (λ n. 0) words
    (λ i n e. no_names x n two (empty i n e)) ∙ sum_zero (λ (n : ℕ). 0) (λ n. refl) words

-- a view that is worker 0's, or not active, owns only what its hand has
own_hand : (z : Sizes) (w : Words) (hs : Homes) (vs : List View) (x i : ℕ) (v : View)
    → Lawful z w hs vs → IsBare [] w vs →
    get_elem? vs i ≡ some v → (b : Bool) → v.active ≡ b
    → (owned x v ≡ in_hand (table_names x) v.hand) × (is_draft x v.draft ≡ 0)
own_hand z w hs vs x i v law bare at true on =
    let e : view_at vs 0 ≡ v = ap (λ (k : ℕ). view_at vs k) (sym (bare.alone i v at on))
    ∙ at_get vs i v unused at in
    let h : times x v.held ≡ 0 = ap (λ (t : View). times x t.held) (sym e)
    ∙ (ap (times x) bare.holds ∙ times-nil x) in
    let r : times x v.retired ≡ 0 = ap (λ (t : View). times x t.retired) (sym e)
    ∙ (ap (times x) bare.retired ∙ times-nil x) in (
      omega (arith, owned_is x v),
      ap (λ (t : View). is_draft x t.draft) (sym e)
          ∙ ap (is_draft x) bare.draft,
    )
own_hand z w hs vs x i v law bare at false off = ⊎_elim
    (λ (q : v ≡ unused). subst (λ (t : View). (owned x t ≡ in_hand (table_names x) t.hand)
    × (is_draft x t.draft ≡ 0)) (sym q) (omega (arith, owned_is x unused, times-nil x), refl))
    (λ (q : v ≡ spent). subst (λ (t : View). (owned x t ≡ in_hand (table_names x) t.hand)
    × (is_draft x t.draft ≡ 0)) (sym q) (omega (arith, owned_is x spent, times-nil x), refl))
    (law.seated.inactive i v at off)

no_drafts : (z : Sizes) (w : Words) (hs : Homes) (vs : List View) (x : ℕ) → Lawful z w hs vs
    → IsBare [] w vs → drafts vs x ≡ 0
no_drafts z w hs vs x law bare = sum_same (λ v. is_draft x v.draft) (λ v. 0) vs
    (λ i v e. (own_hand z w hs vs x i v law bare e v.active refl).1)
    ∙ sum_zero (λ (v : View). 0) (λ v. refl) vs

module _ (z : Sizes) (w : Words) (hs : Homes) (vs : List View) (law : Lawful z w hs vs) (x k : ℕ)
    (two : 2 ≤ x)
    (all : (y : ℕ) → 0 < tabled hs vs y → k ≤ variable_of (get_or w.nodes y 0))
    (least : variable_of (get_or w.nodes x 0) ≡ k) where
  -- the slot is no child of a tabled one: that would have a lesser variable
  no_child : (y : ℕ) → 0 < tabled hs vs y → times x (children (get_or w.nodes y 0)) ≡ 0
  no_child y tab = go (dec_le 1 (times x (children (get_or w.nodes y 0))))
    where
      at_x : variable_at w.nodes x ≡ k
      at_x = rw (le-ltb x 2 two) least

      word : ℕ
      word = get_or w.nodes y 0

      is_low : low_of (get_or w.nodes y 0) ≡ x → ⊥
      is_low e = let s = (law.tables.shaped y tab).above_low in
          let q : variable_at w.nodes (low_of (get_or w.nodes y 0)) ≡ k =
          ap (λ (n : ℕ). variable_at w.nodes n) e ∙ at_x in
          omega (arith, all y tab)

      is_high : high_of (get_or w.nodes y 0) ≡ x → ⊥
      is_high e = let s = (law.tables.shaped y tab).above_high in
          let q : variable_at w.nodes (high_of (get_or w.nodes y 0)) ≡ k =
          ap (λ (n : ℕ). variable_at w.nodes n) e ∙ at_x in
          omega (arith, all y tab)

      go : Dec (1 ≤ times x (children (get_or w.nodes y 0)))
          → times x (children (get_or w.nodes y 0)) ≡ 0
      go (no n) = omega arith
      go (yes c) = absurd (⊎_elim is_low
          (λ (h : 0 < times x (high_of (get_or w.nodes y 0) ∷ [])). ⊎_elim is_high
          (λ (h : 0 < times x []). let n = times-nil x in omega arith)
          (times_cases x (high_of (get_or w.nodes y 0)) [] h))
          (times_cases x (low_of (get_or w.nodes y 0)) (high_of (get_or w.nodes y 0) ∷ []) c))

  -- so a table owns it only as its entry
  entry_alone : (s : ℕ) (t : Entries) → IsTable hs vs s t → (i : ℕ) (e : ℕ × ℕ)
      → get_elem? t i ≡ some e → times x (e.1 ∷ children e.0) ≡ cond (eqb e.1 x) 1 0
  entry_alone s t is i e ate =
      let tab : 0 < tabled hs vs e.1 = let h = has_le t i e ate in
      omega (arith, table_tabled hs vs s t e.1 is) in
      let none : times x (children e.0) ≡ 0 = subst (λ (n : ℕ). times x (children n) ≡ 0)
      (law.tables.entries s t is i e ate).0 (no_child e.1 tab) in
      omega (arith, times-cons x e.1 (children e.0))

  of_table : (s : ℕ) (t : Entries) → IsTable hs vs s t → table_names x t ≡ table_has x t
  unfolding table_names table_has
  of_table s t is = sum_same (λ e. times x (e.1 ∷ children e.0)) (λ e. cond (eqb e.1 x) 1 0) t
      (entry_alone s t is)

  of_home : (s : ℕ) (h : May.Option Entries) → get_elem? hs s ≡ some h → at_home (table_names x) h
      ≡ at_home (table_has x) h
  of_home s none e = refl
  of_home s (some t) e = of_table s t (inl e)

  of_hand : (id : ℕ) (v : View) (h : Option Hand) → get_elem? vs id ≡ some v → v.hand ≡ h
      → in_hand (table_names x) h ≡ in_hand (table_has x) h
  of_hand id v None e is = refl
  of_hand id v (Some h) e is = of_table h.stripe h.entries (inr (id, v, h, e, is, refl, refl))

  owners_are : IsBare [] w vs → owners w hs vs x ≡ tabled hs vs x
  owners_are bare = omega (
    arith,
    sum_same (owned x) (λ v. in_hand (table_has x) v.hand) vs
        (λ i v e. (own_hand z w hs vs x i v law bare e v.active refl).0
        ∙ of_hand i v v.hand e refl),
    sum_same (at_home (table_names x)) (at_home (table_has x)) hs of_home,
    in_no_words x w.cells two bare.cells,
    in_no_words x w.boxes two bare.boxes,
  )

pub least_is_dead : (s : State) (k x : ℕ) → IsLawful s → IsBare [] s.words s.views → AllFrom k s
    → 0 < tabled s.homes s.views x →
    variable_of (get_or s.words.nodes x 0) ≡ k → get_or s.words.counts x 0 ≡ 1
least_is_dead s k x law bare all tab least =
    let range = law.tables.named x tab in
    omega (
      arith,
      law.counted.counts x range.0 range.1,
      owners_are s.sizes s.words s.homes s.views
          law x k range.0 all least bare,
      law.tables.once x,
    )

-- a tabled slot whose count is not 1 has a greater variable
shared_is_later : (s : State) (k x : ℕ) → IsLawful s → IsBare [] s.words s.views → AllFrom k s
    → 0 < tabled s.homes s.views x →
    (get_or s.words.counts x 0 ≡ 1 → ⊥) → suc k ≤ variable_of (get_or s.words.nodes x 0)
shared_is_later s k x law bare all tab shared =
    go (ℕ_discrete (variable_of (get_or s.words.nodes x 0)) k)
  where
    go : Dec (variable_of (get_or s.words.nodes x 0) ≡ k)
        → suc k ≤ variable_of (get_or s.words.nodes x 0)
    go (yes e) = absurd (shared (least_is_dead s k x law bare all tab e))
    go (no n) = omega (arith, all x tab)

pub turn_raises : (s t : State) (k : ℕ) → AllFrom k s → IsTurn s t → AllFrom (suc k) t
turn_raises s t k all turn y tab =
    let tried = turn y tab in
    let here = tried.after.tabled_before y tab in
    let m_all : AllFrom k tried.m = λ x has. let e = tried.before.same_word x has in let a =
    all x (tried.before.tabled_before x has) in subst (λ (n : ℕ). k ≤ variable_of n) (sym e) a
    in
    subst (λ (n : ℕ). suc k ≤ variable_of n) (sym (tried.after.same_word y tab))
    (shared_is_later tried.m k y tried.lawful tried.bare m_all here tried.shared)

turns_raise : (s : ℕ → State) → ((i : ℕ) → IsTurn (s i) (s (suc i))) → (n : ℕ) → AllFrom n (s n)
turns_raise s turns zero = λ y tab. omega arith
turns_raise s turns (suc n) = turn_raises (s n) (s (suc n)) n (turns_raise s turns n) (turns n)

-- no slot has a variable beyond the last
none_beyond : (s : State) (n : ℕ) → IsLawful s → s.sizes.variables ≤ n → AllFrom n s → (x : ℕ)
    → tabled s.homes s.views x ≡ 0
none_beyond s n law past all x = go (dec_le 1 (tabled s.homes s.views x))
  where
    go : Dec (1 ≤ tabled s.homes s.views x) → tabled s.homes s.views x ≡ 0
    go (yes tab) = absurd (let f = (law.tables.shaped x tab).few in omega (arith, all x tab))
    go (no k) = omega arith

pub turns_empty : (s : ℕ → State) → ((i : ℕ) → IsTurn (s i) (s (suc i))) → (n : ℕ) → IsLawful (s n)
    → (s n).sizes.variables ≤ n → (x : ℕ) → tabled (s n).homes (s n).views x ≡ 0
turns_empty s turns n law past = none_beyond (s n) n law past (turns_raise s turns n)

pub no_dead_is_empty : (s : State) → IsLawful s → IsBare [] s.words s.views
    → ((x : ℕ) → 0 < tabled s.homes s.views x → get_or s.words.counts x 0 ≡ 1 → ⊥) → (x : ℕ)
    → tabled s.homes s.views x ≡ 0
no_dead_is_empty s law bare no_dead = none_beyond s s.sizes.variables law (omega arith)
    (from s.sizes.variables)
  where
    from : (n : ℕ) → AllFrom n s
    from zero = λ y tab. omega arith
    from (suc n) = λ y tab. shared_is_later s n y law bare (from n) tab (no_dead y tab)

pub empty_is_free : (s : State) → IsLawful s → IsBare [] s.words s.views
    → ((x : ℕ) → tabled s.homes s.views x ≡ 0) → (x : ℕ) → 2 ≤ x → x < s.sizes.names
    → get_or s.words.counts x 0 ≡ 0
empty_is_free s law bare free x two lt = go (dec_le 1 (owners s.words s.homes s.views x))
  where
    go : Dec (1 ≤ owners s.words s.homes s.views x) → get_or s.words.counts x 0 ≡ 0
    go (yes o) = absurd (omega (arith, law.counted.owners_tabled x two o, free x))
    go (no n) = omega (
      arith,
      law.counted.counts x two lt,
      no_drafts s.sizes s.words s.homes s.views
          x law bare,
    )

-- where worker 0 is alone and holds nothing, each slot with a count above 0 is tabled
pub counted_tabled : (s : State) → IsLawful s → IsBare [] s.words s.views → (x : ℕ) → 2 ≤ x
    → x < s.sizes.names → 0 < get_or s.words.counts x 0 → 0 < tabled s.homes s.views x
counted_tabled s law bare x two lt counted =
    law.counted.owners_tabled x two (omega (
      arith,
      law.counted.counts x two lt,
      no_drafts s.sizes s.words s.homes s.views x law bare,
    ))

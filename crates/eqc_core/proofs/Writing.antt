-- A node word is written, and stands in its stripe's table.
use Rattle.std.proofs.Common.{◌≡◌, ◌≢◌, ◌⊎◌, ℕ, zero, suc, ◌+◌, ◌*◌, ◌^◌, ◌<◌, ◌≤◌, List, [], ◌∷◌}
use Rattle.std.proofs.Common.{◌++◌, length, set, get_or, eqb, ltb, cond, if◌then◌else◌, true, Some}
use Rattle.std.proofs.Common.{None, eq-eqb, ne_eqb, refl, sym, ap, subst, ◌∙◌, arith, inl, inr}
use Rattle.std.proofs.Common.{⊎_elim, length-set, get_or-set_same, get_or-set_other}
use Rattle.std.proofs.lemmas.Bool.{lt-ltb}
use Rattle.std.proofs.lemmas.List.Sums.{sum_by-cons, sum_by-append}
use mathlib.Core.Option.{some, some-injective, some-ne-none}
use native.Mathlib.Decide.{ℕ_discrete, dec_le}
use lib.ListN.{get_elem?}
use Rattle.eqc_tree.specs.Tree.{Tree}
use Rattle.eqc_core.specs.declared.sizes.Sizes.{Sizes}
use Rattle.eqc_core.specs.View.{View, Hand, Read, unused}
use Rattle.eqc_core.specs.Words.{Words, times, children, low_of, high_of, variable_of, first_of}
use Rattle.eqc_core.specs.Words.{second_of, result_of, cell_names, stripe_of, slots_of}
use Rattle.eqc_core.specs.Tables.{Entries, Homes, IsName, tabled, in_hand, table_has, table_word}
use Rattle.eqc_core.specs.Tables.{table_names, IsTable, has_stripe}
use Rattle.eqc_core.specs.Owners.{owned, owners, drafts, is_draft, in_words}
use Rattle.eqc_core.specs.Trees.{IsTree, variable_at, IsShaped, IsRight, IsBoxWord}
use Rattle.eqc_core.specs.Lawful.{Lawful, IsRead, Fits}
use Rattle.eqc_core.specs.Moves.{without_each}
use Rattle.eqc_core.specs.Making.{MayWrite, written_words, wrote}
use Rattle.eqc_core.proofs.Lists.{same_at, set_else}
use Rattle.eqc_core.proofs.Sums.{sum_set, at_le_sum}
use Rattle.eqc_core.proofs.Names.{times-cons, times-nil, times-append, times-without_each}
use Rattle.eqc_core.proofs.Names.{times_without_each_le, times-slots_of, times_cases, names_low}
use Rattle.eqc_core.proofs.Names.{names_high, names_first, names_second, names_result}
use Rattle.eqc_core.proofs.Tables.{owned_is, tabled_where, entry_of, has_le, table_tabled}
use Rattle.eqc_core.proofs.Tables.{held_tabled, in_cell_tabled}
use Rattle.eqc_core.proofs.Frames.{forgets}
use Rattle.eqc_core.proofs.Trees.{is_tree_stays, low_named, high_named}
use Rattle.eqc_core.proofs.Frames.{step_keeps, drafts_step, table_cases}
use Rattle.eqc_core.proofs.Locking.{home_some, same_hand}
use Rattle.eqc_core.proofs.Claiming.{draft_is, draft_same}

-- a table with one entry more
pub has_append : (x : ℕ) (t : Entries) (e : ℕ × ℕ) → table_has x (t ++ e ∷ []) ≡ table_has x t
    + cond (eqb e.1 x) 1 0
unfolding table_has
has_append x t e = omega (
  arith,
  sum_by-append (λ (k : ℕ × ℕ). cond {A = ℕ} (eqb k.1 x) 1 0) t (e
      ∷ []),
  sum_by-cons (λ (k : ℕ × ℕ). cond {A = ℕ} (eqb k.1 x) 1 0) e [],
)

pub names_append : (x : ℕ) (t : Entries) (e : ℕ × ℕ) → table_names x (t ++ e ∷ []) ≡ table_names x t
    + times x (e.1 ∷ children e.0)
unfolding table_names
names_append x t e = omega (
  arith,
  sum_by-append (λ (k : ℕ × ℕ). times x (k.1 ∷ children k.0)) t (e
      ∷ []),
  sum_by-cons (λ (k : ℕ × ℕ). times x (k.1 ∷ children k.0)) e [],
)

word_le : (t : Entries) (i : ℕ) (e : ℕ × ℕ) → get_elem? t i ≡ some e → 0 < table_word e.0 t
unfolding table_word
word_le t i e at = let r = at_le_sum (λ (f : ℕ × ℕ). cond {A = ℕ} (eqb f.0 e.0) 1 0) t i e at in
    let o : cond {A = ℕ} (eqb e.0 e.0) 1 0 ≡ 1 = rw (eq-eqb e.0 e.0 refl) refl in omega arith

at_end : {A : Type 0} (l : List A) (a b : A) (i : ℕ) → get_elem? (l ++ a ∷ []) i ≡ some b
    → (get_elem? l i ≡ some b) ⊎ (a ≡ b)
at_end [] a b zero e = inr (some-injective a b e)
at_end [] a b (suc i) e = absurd (some-ne-none b (sym e))
at_end (x ∷ xs) a b zero e = inl e
at_end (x ∷ xs) a b (suc i) e = at_end xs a b i e

stripe_below : (word : ℕ) → stripe_of word < 16
unfolding stripe_of
stripe_below word = omega arith

-- a stripe that is in hand has no other table
pub one_table : (z : Sizes) (w : Words) (hs : Homes) (vs : List View) (id : ℕ) (v : View) (h : Hand)
    (s : ℕ) (t : Entries) → Lawful z w hs vs →
    get_elem? vs id ≡ some v → v.hand ≡ Some h → h.stripe ≡ s → s < 16 → IsTable hs vs s t
    → t ≡ h.entries
one_table z w hs vs id v h s t law at is stripe lt table = go table
  where
    mine : has_stripe s v.hand ≡ 1
    mine = ap (λ k. has_stripe s k) is ∙ rw (eq-eqb h.stripe s stripe) refl

    go : IsTable hs vs s t → t ≡ h.entries
    go (inl e) = absurd (omega (
      arith,
      home_some hs s t e,
      mine,
      at_le_sum (λ (v : View). has_stripe s v.hand) vs id v at,
      law.tables.stripes s lt,
    ))
    go (inr p) = here (ℕ_discrete p.0 id)
      where
        here : Dec (p.0 ≡ id) → t ≡ h.entries
        here (yes e) =
            let k : p.1 ≡ v = same_at vs p.0 id p.1 v p.3 at e in
            let q : p.2 ≡ h = same_hand p.2 h (sym p.4 ∙ (ap (λ (x : View). x.hand) k ∙ is)) in
            sym p.6 ∙ ap (λ (x : Hand). x.entries) q
        here (no n) =
            let theirs : has_stripe s p.1.hand ≡ 1 = ap (λ k. has_stripe s k) p.4
            ∙ rw (eq-eqb p.2.stripe s p.5) refl in
            let other = at_le_sum (λ (v : View). has_stripe s v.hand) (set vs id unused) p.0 p.1
            (set_else vs id p.0 unused n ∙ p.3) in
            absurd (omega (
              arith,
              sum_set (λ (v : View). has_stripe s v.hand) vs id v unused at,
              mine,
              law.tables.stripes s lt,
            ))

-- a node word in order stays so, where its children's words stay
shaped_stays : (n : ℕ) (nodes nodes' : List ℕ) (word : ℕ) → variable_at nodes' (low_of word)
    ≡ variable_at nodes (low_of word) →
    variable_at nodes' (high_of word) ≡ variable_at nodes (high_of word) → IsShaped n nodes word
    → IsShaped n nodes' word
shaped_stays n nodes nodes' word l h s = record {
  few = s.few;
  above_low = let k = s.above_low in omega arith;
  above_high = let k = s.above_high in omega arith;
  differ = s.differ;
}

-- a word stays right, where the trees of its names stay
right_stays : (nodes nodes' : List ℕ) (word : ℕ)
    → ((t : Tree) (x : ℕ) → 0 < times x (cell_names word) → IsTree nodes t x → IsTree nodes' t x)
    → IsRight nodes word → IsRight nodes' word
right_stays nodes nodes' word stays (inl e) = inl e
right_stays nodes nodes' word stays (inr r) = inr (record {
  operation = r.operation;
  tag = r.tag;
  first = r.first;
  second = r.second;
  result = r.result;
  first_is = stays r.first (first_of word) (names_first word) r.first_is;
  second_is = stays r.second (second_of word) (names_second word) r.second_is;
  result_is = stays r.result (result_of word) (names_result word) r.result_is;
  right = r.right;
})

box_stays : (nodes nodes' : List ℕ) (word : ℕ) → ((t : Tree) (x : ℕ) → 0 < times x (cell_names word)
    → IsTree nodes t x → IsTree nodes' t x) → IsBoxWord nodes word → IsBoxWord nodes' word
box_stays nodes nodes' word stays (inl r) = inl (right_stays nodes nodes' word stays r)
box_stays nodes nodes' word stays (inr r) = inr r

in_box_tabled : (z : Sizes) (w : Words) (hs : Homes) (vs : List View) → Lawful z w hs vs
    → (b x word : ℕ) → get_elem? w.boxes b ≡ some word → 2 ≤ x → 0 < times x (cell_names word)
    → 0 < tabled hs vs x
unfolding in_words
in_box_tabled z w hs vs law b x word at two named = law.counted.owners_tabled x two (let l =
    at_le_sum (λ n. times x (cell_names n)) w.boxes b word at in omega arith)

module _ (z : Sizes) (w : Words) (hs : Homes) (vs : List View) (id : ℕ) (v : View)
    (law : Lawful z w hs vs) (at : get_elem? vs id ≡ some v) where
  -- a write leaves the tree of each tabled slot
  pub write_keeps_trees : (d word x : ℕ) (t : Tree) → v.draft ≡ Some d → 0 < tabled hs vs x
      → IsTree w.nodes t x → IsTree (set w.nodes d word) t x
  write_keeps_trees d word x t draft tab is =
      is_tree_stays z w hs vs d word law
      (let k = law.tables.once d in let l = at_le_sum (λ (t : View). is_draft d t.draft) vs id v at
      in let o : is_draft d v.draft ≡ 1 = ap (is_draft d) draft ∙ draft_same d d refl in
      omega arith)
      t x (inr tab) is

module _ (z : Sizes) (w : Words) (hs : Homes) (vs : List View) (id : ℕ) (v : View)
    (law : Lawful z w hs vs) (at : get_elem? vs id ≡ some v)
    (on : v.active ≡ true) (d word : ℕ) (h : Hand) (may : MayWrite w.nodes v d h word) where
  f : Fits z w vs id v
  f = law.views id v at on

  names : List ℕ
  names = slots_of (children word)

  abbrev held : List ℕ
  held = without_each (slots_of (children word)) v.held ++ d ∷ []

  abbrev nodes : List ℕ
  nodes = set w.nodes d word

  abbrev after : Hand
  after = record h { entries = h.entries ++ (word, d) ∷ [] }

  abbrev u : View
  u = wrote v d h word

  drafted : (2 ≤ d) × (d < z.names) × (drafts vs d ≡ 1) × (tabled hs vs d ≡ 0)
      × (get_or w.counts d 0 ≡ 2) × (owners w hs vs d ≡ 0)
  drafted = draft_is z w hs vs id v law at on d may.draft

  not_draft : (x : ℕ) → 0 < tabled hs vs x → x ≢ d
  not_draft x tab e = let k : tabled hs vs x ≡ 0 = subst (λ (y : ℕ). tabled hs vs y ≡ 0) (sym e)
      drafted.3 in omega arith

  node_stays : (x : ℕ) → 0 < tabled hs vs x → get_or nodes x 0 ≡ get_or w.nodes x 0
  node_stays x tab = get_or-set_other w.nodes d x word 0 (not_draft x tab)

  node_new : get_or nodes d 0 ≡ word
  node_new = get_or-set_same w.nodes d word 0 (let k = drafted.1 in omega (arith, law.sized.nodes))

  mine : IsTable hs vs h.stripe h.entries
  mine = inr (id, v, h, at, may.hand, refl, refl)

  is_here : ℕ → ℕ
  is_here x = cond (eqb d x) 1 0

  tab : (x : ℕ) → tabled hs (set vs id u) x ≡ tabled hs vs x + cond (eqb d x) 1 0
  tab x =
      let e : in_hand (table_has x) v.hand ≡ table_has x h.entries =
      ap (λ k. in_hand (table_has x) k) may.hand in
      omega (
        arith,
        sum_set (λ t. in_hand (table_has x) t.hand) vs id v u at,
        has_append x h.entries
            (word, d),
      )

  change : (x : ℕ) → drafts (set vs id u) x + cond (eqb d x) 1 0 ≡ drafts vs x
  change x =
      let e : is_draft x v.draft ≡ cond (eqb d x) 1 0 = ap (is_draft x) may.draft in
      omega (arith, drafts_step z w hs vs id v law at on u.held None u.hand u.read v.turn v.stops x)

  own : (x : ℕ) → 2 ≤ x → owners (written_words w d word) hs (set vs id u) x ≡ owners w hs vs x
      + 2 * cond (eqb d x) 1 0
  own x two =
      let e : in_hand (table_names x) v.hand ≡ table_names x h.entries =
      ap (λ k. in_hand (table_names x) k) may.hand in
      let g = times-without_each x (slots_of (children word)) v.held
      (omega (arith, times-slots_of x (children word) two, may.held x two)) in
      omega (
        arith,
        sum_set (owned x) vs id v u at,
        owned_is x v,
        owned_is x u,
        names_append x h.entries (word, d),
        times-append x (without_each (slots_of (children word)) v.held) (d ∷ []),
        times-slots_of x (children word) two,
        times-cons x d [],
        times-nil x,
        times-cons x d (children word),
      )

  here_one : (x : ℕ) → x ≡ d → cond {A = ℕ} (eqb d x) 1 0 ≡ 1
  here_one x e = rw (eq-eqb d x (sym e)) refl

  here_zero : (x : ℕ) → x ≢ d → cond {A = ℕ} (eqb d x) 1 0 ≡ 0
  here_zero x n = rw (ne_eqb d x (λ e. n (sym e))) refl

  was_tabled : (x : ℕ) → x ≢ d → 0 < tabled hs (set vs id u) x → 0 < tabled hs vs x
  was_tabled x n has = omega (arith, tab x, here_zero x n)

  -- no tabled slot has the new word
  new_word : (y : ℕ) → 0 < tabled hs vs y → get_or w.nodes y 0 ≡ word → ⊥
  new_word y has is =
      let p = tabled_where hs vs y has in
      let e = entry_of y p.1 p.3 in
      let g = law.tables.entries p.0 p.1 p.2 e.0 e.1 e.2 in
      let same : e.1.0 ≡ word = sym g.0 ∙ (ap (λ (k : ℕ). get_or w.nodes k 0) e.3 ∙ is) in
      let stripe : h.stripe ≡ p.0 = may.stripe ∙ (ap stripe_of (sym same) ∙ g.1) in
      let small : p.0 < 16 = subst (λ (k : ℕ). k < 16) (sym may.stripe ∙ stripe) (stripe_below word)
      in
      let t : p.1 ≡ h.entries = one_table z w hs vs id v h p.0 p.1 law at may.hand stripe small p.2
      in
      let some_word : 0 < table_word word h.entries =
      subst (λ (q : ℕ × Entries). 0 < table_word q.0 q.1) (λ i. (same i, t i))
      (word_le p.1 e.0 e.1 e.2) in
      let none = may.new in
      omega arith

  variable_stays : (x : ℕ) → IsName hs vs x → variable_at nodes x ≡ variable_at w.nodes x
  variable_stays x (inl lt) = rw (lt-ltb x 2 lt) refl
  variable_stays x (inr t) = ap (λ (n : ℕ). if ltb x 2 then 2 ^ 16 else variable_of n)
      (node_stays x t)

  child_named : (x : ℕ) → 0 < times x (children word) → Dec (2 ≤ x) → IsName hs vs x
  child_named x c (yes two) =
      inr (held_tabled z w hs vs law id x v at two (omega (arith, may.held x two)))
  child_named x c (no n) = inl (omega arith)

  shaped : (x : ℕ) → 0 < tabled hs (set vs id u) x → Dec (x ≡ d)
      → IsShaped z.variables nodes (get_or nodes x 0)
  shaped x has (yes e) =
      subst (λ (n : ℕ). IsShaped z.variables nodes n) (sym (ap (λ (k : ℕ). get_or nodes k 0) e
      ∙ node_new))
      (shaped_stays z.variables w.nodes nodes word
      (variable_stays (low_of word) (child_named (low_of word) (names_low word)
      (dec_le 2 (low_of word))))
      (variable_stays (high_of word) (child_named (high_of word) (names_high word)
      (dec_le 2 (high_of word))))
      (subst (λ (y : Sizes). IsShaped y.variables w.nodes word) f.sizes may.shaped))
  shaped x has (no n) =
      let old = was_tabled x n has in
      subst (λ (m : ℕ). IsShaped z.variables nodes m) (sym (node_stays x old))
      (shaped_stays z.variables w.nodes nodes (get_or w.nodes x 0)
      (variable_stays (low_of (get_or w.nodes x 0)) (low_named z w hs vs x law old))
      (variable_stays (high_of (get_or w.nodes x 0)) (high_named z w hs vs x law old))
      (law.tables.shaped x old))

  unique : (x y : ℕ) → 0 < tabled hs (set vs id u) x → 0 < tabled hs (set vs id u) y
      → get_or nodes x 0 ≡ get_or nodes y 0 → Dec (x ≡ d) → Dec (y ≡ d) → x ≡ y
  unique x y a b e (yes p) (yes q) = p ∙ sym q
  unique x y a b e (yes p) (no n) =
      let old = was_tabled y n b in
      absurd (new_word y old (sym (node_stays y old) ∙ (sym e ∙ (ap (λ (k : ℕ). get_or nodes k 0) p
      ∙ node_new))))
  unique x y a b e (no n) (yes q) =
      let old = was_tabled x n a in
      absurd (new_word x old (sym (node_stays x old)
      ∙ (e ∙ (ap (λ (k : ℕ). get_or nodes k 0) q ∙ node_new))))
  unique x y a b e (no n) (no m) =
      let k = was_tabled x n a in
      let l = was_tabled y m b in
      law.tables.unique x y k l (sym (node_stays x k) ∙ (e ∙ node_stays y l))

  old_entry : (s : ℕ) (t : Entries) → IsTable hs vs s t → (i : ℕ) (e : ℕ × ℕ)
      → get_elem? t i ≡ some e → (get_or nodes e.1 0 ≡ e.0) × (stripe_of e.0 ≡ s)
  old_entry s t is i e ate =
      let g = law.tables.entries s t is i e ate in (
        node_stays e.1 (let k = has_le t i e ate in omega (arith, table_tabled hs vs s t e.1 is))
            ∙ g.0,
        g.1,
      )

  new_entry : (e : ℕ × ℕ) → (word, d) ≡ e → (get_or nodes e.1 0 ≡ e.0) × (stripe_of e.0 ≡ h.stripe)
  new_entry e is = subst (λ (k : ℕ × ℕ). (get_or nodes k.1 0 ≡ k.0) × (stripe_of k.0 ≡ h.stripe)) is
      (node_new, sym may.stripe)

  hand_entry : (i : ℕ) (e : ℕ × ℕ) → get_elem? (h.entries ++ (word, d) ∷ []) i ≡ some e
      → (get_or nodes e.1 0 ≡ e.0) × (stripe_of e.0 ≡ h.stripe)
  hand_entry i e ate = ⊎_elim
      (λ (p : get_elem? h.entries i ≡ some e). old_entry h.stripe h.entries mine i e p)
      (λ (p : (word, d) ≡ e). new_entry e p)
      (at_end h.entries (word, d) e i ate)

  entries : (s : ℕ) (t : Entries) → IsTable hs (set vs id u) s t → (i : ℕ) (e : ℕ × ℕ)
      → get_elem? t i ≡ some e → (get_or nodes e.1 0 ≡ e.0) × (stripe_of e.0 ≡ s)
  entries s t is i e ate = ⊎_elim
      (λ (p : IsTable hs vs s t). old_entry s t p i e ate)
      (λ (p : (k : Hand) × (Some after ≡ Some k) × (k.stripe ≡ s) × (k.entries ≡ t)).
      let k = same_hand after p.0 p.1 in
      let g = hand_entry i e (ap (λ (l : Entries). get_elem? l i) (ap (λ (y : Hand). y.entries) k
      ∙ p.3) ∙ ate) in
      (g.0, g.1 ∙ (ap (λ (y : Hand). y.stripe) k ∙ p.2)))
      (table_cases z w hs vs id v law at on u.held None u.hand u.read v.turn v.stops hs s t is)

  tree_stays : (t : Tree) (x : ℕ) → IsName hs vs x → IsTree w.nodes t x → IsTree nodes t x
  tree_stays t x is = is_tree_stays z w hs vs d word law drafted.3 t x is

  named_or : (x : ℕ) → (2 ≤ x → 0 < tabled hs vs x) → Dec (2 ≤ x) → IsName hs vs x
  named_or x t (yes two) = inr (t two)
  named_or x t (no n) = inl (omega arith)

  pub write_keeps : length (wrote v d h word).held ≤ 2 ^ 40
      → Lawful z (written_words w d word) hs (set vs id (wrote v d h word))
  write_keeps room =
      step_keeps z w hs vs id v law at on u.held None u.hand u.read v.turn v.stops w.counts nodes
      w.locks hs refl (length-set w.nodes d word) refl refl node_stays
      (record {
        counts = λ x two lt. omega (arith, law.counted.counts x two lt, own x two, change x);
        owners_tabled = λ x two has. owned_now x two has (ℕ_discrete x d);
      })
      (record {
        once = λ x. omega (arith, law.tables.once x, tab x, change x);
        named = λ x has. named x has (ℕ_discrete x d);
        drafts_named = λ x has. law.tables.drafts_named x (omega (arith, change x));
        entries = entries;
        shaped = λ x has. shaped x has (ℕ_discrete x d);
        unique = λ x y a b e. unique x y a b e (ℕ_discrete x d) (ℕ_discrete y d);
        stripes = λ s lt. let e = ap (λ k. has_stripe s k) may.hand in
            omega (arith, law.tables.stripes s lt, sum_set (λ t. has_stripe s t.hand) vs id v u at);
        locks = law.tables.locks;
      })
      (record {
        cells = λ c n e. right_stays w.nodes nodes n (λ t x has is. tree_stays t x
            (named_or x (λ two. in_cell_tabled z w hs vs law c x n e two has) (dec_le 2 x)) is)
            (law.right.cells c n e);
        boxes = λ b n e. box_stays w.nodes nodes n (λ t x has is. tree_stays t x
            (named_or x (λ two. in_box_tabled z w hs vs law b x n e two has) (dec_le 2 x)) is)
            (law.right.boxes b n e);
      })
      room (λ x has. slot x has (dec_le 1 (times x v.held))) (λ r is. reads r is)
      (λ k e. subst (λ (y : Hand). y.stripe < 16) (same_hand after k e) (f.hand h may.hand))
    where
      owned_now : (x : ℕ) → 2 ≤ x → 0 < owners (written_words w d word) hs (set vs id u) x
          → Dec (x ≡ d) → 0 < tabled hs (set vs id u) x
      owned_now x two has (yes e) = omega (arith, tab x, here_one x e)
      owned_now x two has (no n) =
          omega (
            arith,
            law.counted.owners_tabled x two (omega (arith, own x two, here_zero x n)),
            tab x,
          )

      named : (x : ℕ) → 0 < tabled hs (set vs id u) x → Dec (x ≡ d) → (2 ≤ x) × (x < z.names)
      named x has (yes e) = subst (λ (k : ℕ). (2 ≤ k) × (k < z.names)) (sym e) (
        drafted.0,
        drafted.1,
      )
      named x has (no n) = law.tables.named x (was_tabled x n has)

      slot : (x : ℕ) → 0 < times x (without_each (slots_of (children word)) v.held ++ d ∷ [])
          → Dec (1 ≤ times x v.held) → 2 ≤ x
      slot x has (yes k) = f.slots x (omega arith)
      slot x has (no k) = ⊎_elim
          (λ (e : d ≡ x). subst (λ (y : ℕ). 2 ≤ y) e drafted.0)
          (λ (e : 0 < times x []). absurd (let n = times-nil x in omega arith))
          (times_cases x d [] (omega (
            arith,
            times-append x (without_each (slots_of (children word))
                v.held) (d ∷ []),
            times_without_each_le x (slots_of (children word)) v.held,
          )))

      reads : (r : Read) → u.read ≡ Some r → IsRead nodes u.held r
      reads r is =
          let g = forgets u.held v.read r is in
          let k = f.read r g.0 in
          let still = k.held_still in
          record {
            held_still = g.1;
            word_is =
                node_stays r.name (held_tabled z w hs vs law id r.name v at
                (f.slots r.name (omega arith)) still) ∙ k.word_is;
          }

-- Laws of literals that are made: columns of a later graph, conjunctions, and the literals of rows.
use Rattle.std.proofs.Common.{◌≡◌, ℕ, zero, suc, ◌+◌, ◌-◌, ◌/◌, ◌%◌, ◌^◌, ◌<◌, ◌≤◌, min, eqb, Bool}
use Rattle.std.proofs.Common.{true, false, not, ◌&&◌, ◌||◌, cond, List, [], ◌∷◌, ◌++◌, length}
use Rattle.std.proofs.Common.{get_or, take, drop, map, refl, sym, ◌∙◌, ap, inl, inr, arith}
use Rattle.std.specs.Prelude.{Result, Ok, Err, IfOk}
use Rattle.std.specs.List.{list_all}
use Rattle.std.proofs.lemmas.Bool.{or_cases, eqb-true, cases_eq, ne_eqb}
use Rattle.std.proofs.lemmas.List.{drop_more, drop-append-le, take_all, get_or-map, length_push}
use Rattle.std.proofs.lemmas.List.{get_or_append_left, get_or_at, length-map}
use Rattle.std.proofs.lemmas.List.Folds.{list_all-append, list_any_more}
use Rattle.eqc_netlist.specs.Cover.{allows, row_matches}
use Rattle.eqc_netlist.proofs.RowLemmas.{row_over}
use Rattle.eqc_xag.specs.declared.node.Node.{Node}
use Rattle.eqc_xag.specs.Graph.{literal_value, IsWithin, Extends, differ}
use Rattle.eqc_xag.proofs.GraphLemmas.{extends_itself, extends_along}
use Rattle.eqc_sweep.specs.Sweeping.{HasValue}
use Rattle.eqc_gates.specs.Literals.{AreWithin, AreAskedFor}
use Rattle.eqc_cover.specs.Table.{table_value, IsCofactor, DependsOnOpen}
use Rattle.eqc_cover.proofs.TableLaws.{table-zero, table-ones, table-not, expansion, none_open}
use Rattle.eqc_cover.proofs.RowTableLaws.{some_matches, matches_more, matches_whole, one_ends}

-- ---- one literal

-- the same literal for a function that is the same
pub value_as : (nodes : List Node) (l : ℕ) (f g : (ℕ → Bool) → Bool) → ((a : ℕ → Bool) → f a ≡ g a)
    → HasValue nodes l f → HasValue nodes l g
value_as nodes l f g same is = record { within = is.within; value = λ a. is.value a ∙ same a }

-- a literal m that is the complement of a literal l in every graph
pub record IsOpposite (m l : ℕ) : Type 0 where
  pub node : m / 2 ≡ l / 2
  pub value : (nodes : List Node) (a : ℕ → Bool) → literal_value nodes a m
      ≡ not (literal_value nodes a l)

-- an or as the complement of an and
pub or_value : (old new : List Node) (x y nx ny l m : ℕ) → IsOpposite nx x → IsOpposite ny y
    → IsOpposite m l →
    HasValue new l (λ a. literal_value old a nx && literal_value old a ny)
    → HasValue new m (λ a. literal_value old a x || literal_value old a y)
or_value old new x y nx ny l m ox oy om is = record {
  within = omega (arith, om.node, is.within);
  value = λ a.
      om.value new a
      ∙ (ap not (is.value a ∙ (ap (λ b. b && literal_value old a ny) (ox.value old a)
      ∙ ap (λ b. not (literal_value old a x) && b) (oy.value old a)))
      ∙ neither_not (literal_value old a x) (literal_value old a y));
}
  where
    neither_not : (b c : Bool) → not (not b && not c) ≡ (b || c)
    neither_not true c = refl
    neither_not false true = refl
    neither_not false false = refl

-- what a multiplexer says
abbrev pub chosen : List Node → ℕ → ℕ → ℕ → (ℕ → Bool) → Bool
chosen nodes x high low a = cond (literal_value nodes a x) (literal_value nodes a high)
    (literal_value nodes a low)

-- ---- literals of a later graph

pub still_within : (old new : List Node) (ls : List ℕ) → Extends old new → AreWithin old ls
    → AreWithin new ls
still_within old new ls more within =
    record { each = λ k inside. omega (arith, within.each k inside, more.longer) }

pub within_rest : (nodes : List Node) (l : ℕ) (ls : List ℕ) → AreWithin nodes (l ∷ ls)
    → AreWithin nodes ls
within_rest nodes l ls within = record { each = λ k inside. within.each (suc k) (omega arith) }

pub same_values : (old new : List Node) (a : ℕ → Bool) (ls : List ℕ) → Extends old new
    → AreWithin old ls → map (literal_value new a) ls ≡ map (literal_value old a) ls
same_values old new a [] more within = refl
same_values old new a (l ∷ ls) more within =
    let here : literal_value new a l ≡ literal_value old a l =
    more.same l a (within.each 0 (omega arith)) in
    let others = same_values old new a ls more (within_rest old l ls within) in
    cc

pub same_all : (old new : List Node) (a : ℕ → Bool) (ls : List ℕ) → Extends old new
    → AreWithin old ls → list_all (literal_value new a) ls ≡ list_all (literal_value old a) ls
same_all old new a [] more within = refl
same_all old new a (l ∷ ls) more within =
    let here : literal_value new a l ≡ literal_value old a l =
    more.same l a (within.each 0 (omega arith)) in
    let others = same_all old new a ls more (within_rest old l ls within) in
    cc

pub within_push : (nodes : List Node) (ls more : List ℕ) (l : ℕ) → AreWithin nodes ls
    → IsWithin nodes l → more ≡ ls ++ l ∷ [] → AreWithin nodes more
within_push nodes ls more l within one is = rw is (record {
  each = λ k inside. elim (cases_eq k (length ls)) [
    | inl last ↦ omega (arith, one, get_or_at ls l [] 0 k (sym last))
    | inr front ↦
        let low : k < length ls = omega (arith, inside, length_push ls l) in
        omega (arith, within.each k low, get_or_append_left ls (l ∷ []) 0 k low)
  ];
})

pub within_drop : (nodes : List Node) (ls : List ℕ) (n : ℕ) → AreWithin nodes ls
    → AreWithin nodes (drop n ls)
within_drop nodes ls zero within = within
within_drop nodes [] (suc n) within = within
within_drop nodes (l ∷ ls) (suc n) within = within_drop nodes ls n (within_rest nodes l ls within)

-- what the columns' literals say
abbrev pub said : List Node → List ℕ → (ℕ → Bool) → List Bool
said nodes columns a = map (literal_value nodes a) columns

pub length_said : (nodes : List Node) (columns : List ℕ) (a : ℕ → Bool)
    → length (said nodes columns a) ≡ length columns
length_said nodes columns a = length-map columns (literal_value nodes a)

-- ---- conjunctions

-- what is left of a conjunction says what all of it says
pub record IsReduced (old now : List Node) (literals work : List ℕ) (next : ℕ) : Type 0 where
  pub extends : Extends old now
  pub within : AreWithin now work
  pub most : next ≤ length work
  pub value : (a : ℕ → Bool) → list_all (literal_value now a) (drop next work)
      ≡ list_all (literal_value old a) literals

pub reduction_begins : (nodes : List Node) (literals : List ℕ) → AreWithin nodes literals
    → IsReduced nodes nodes literals literals 0
reduction_begins nodes literals within = record {
  extends = extends_itself nodes;
  within = within;
  most = omega arith;
  value = λ a. refl;
}

two_in_turn : (x y rest : Bool) → (rest && ((x && y) && true)) ≡ (x && (y && rest))
two_in_turn true true true = refl
two_in_turn true true false = refl
two_in_turn true false true = refl
two_in_turn true false false = refl
two_in_turn false true true = refl
two_in_turn false true false = refl
two_in_turn false false true = refl
two_in_turn false false false = refl

two_open : (work : List ℕ) (next : ℕ) → next + 1 < length work → drop next work ≡ get_or work next 0
    ∷ get_or work (next + 1) 0 ∷ drop (next + 2) work
two_open work next inside = drop_more work next 0 (omega arith)
    ∙ ap (λ rest. get_or work next 0 ∷ rest) (drop_more work (next + 1) 0 inside
    ∙ ap (λ n. get_or work (next + 1) 0 ∷ drop n work) two)
  where
    two : next + 1 + 1 ≡ next + 2
    two = omega arith

-- two are replaced by their gate, at the end
pub reduction_goes_on : (old now new : List Node) (literals work more : List ℕ) (next both : ℕ)
    → IsReduced old now literals work next → next + 1 < length work → Extends now new
    → IsWithin new both
    → ((a : ℕ → Bool) → literal_value new a both ≡ (literal_value now a (get_or work next 0)
    && literal_value now a (get_or work (next + 1) 0))) →
    more ≡ work ++ both ∷ [] → IsReduced old new literals more (next + 2)
reduction_goes_on old now new literals work more next both so_far inside extends within value is =
    record {
      extends = extends_along old now new so_far.extends extends;
      within = within_push new work more both (still_within now new work extends so_far.within) within
          is;
      most = omega (arith, inside, ap length is, length_push work both);
      value = λ a.
          let rest = drop (next + 2) work in
          ap (λ ls. list_all (literal_value new a) (drop (next + 2) ls)) is
          ∙ (ap (list_all (literal_value new a)) (drop-append-le (next + 2) work (both ∷ [])
          (omega arith))
          ∙ (list_all-append (literal_value new a) rest (both ∷ [])
          ∙ (ap (λ b. b && (literal_value new a both && true)) (same_all now new a rest extends
          (within_drop now work (next + 2) so_far.within))
          ∙ (ap (λ b. list_all (literal_value now a) rest && (b && true)) (value a)
          ∙ (two_in_turn (literal_value now a (get_or work next 0))
          (literal_value now a (get_or work (next + 1) 0)) (list_all (literal_value now a) rest)
          ∙ (ap (list_all (literal_value now a)) (sym (two_open work next inside))
          ∙ so_far.value a))))));
    }

and_true : (b : Bool) → b ≡ (b && true)
and_true true = refl
and_true false = refl

-- ---- the literals of a row

pub asked_for_none : (columns row : List ℕ) → AreAskedFor columns (take 0 row) []
asked_for_none columns row = record {
  within = λ nodes h. record {
    each =
        λ k inside. absurd (omega arith);
  };
  value =
      λ nodes a. sym (row_over (map (literal_value nodes a) columns));
}

-- one more, which says whether the byte allows the column's value
pub asked_for_more : (columns row asked more : List ℕ) (j l : ℕ)
    → AreAskedFor columns (take j row) asked → j < length columns → j < length row →
    more ≡ asked ++ l ∷ [] → l / 2 ≡ get_or columns j 0 / 2
    → ((nodes : List Node) (a : ℕ → Bool) → literal_value nodes a l ≡ allows (get_or row j 0)
    (literal_value nodes a (get_or columns j 0))) → AreAskedFor columns (take (j + 1) row) more
asked_for_more columns row asked more j l so_far inside within is node value = record {
  within = λ nodes h. within_push nodes asked more l (so_far.within nodes h)
      (omega (arith, node, h.each j inside)) is;
  value = λ nodes a.
      ap (list_all (literal_value nodes a)) is
      ∙ (list_all-append (literal_value nodes a) asked (l ∷ [])
      ∙ (ap (λ b. b && (literal_value nodes a l && true)) (so_far.value nodes a)
      ∙ (ap (λ b. row_matches (take j row) (said nodes columns a) && b)
      (sym (and_true (literal_value nodes a l))
      ∙ (value nodes a ∙ ap (allows (get_or row j 0))
      (sym (get_or-map (literal_value nodes a) columns j 0 false inside))))
      ∙ sym (matches_more row (said nodes columns a) j within (omega (
        arith,
        inside,
        length_said nodes columns a,
      ))))));
}

allows_both : (byte : ℕ) (v : Bool) → (byte ≡ 48 → ⊥) → (byte ≡ 49 → ⊥) → true ≡ allows byte v
allows_both byte v low high = rw (ne_eqb byte 48 low, ne_eqb byte 49 high) refl

pub asked_for_still : (columns row asked : List ℕ) (j : ℕ) → AreAskedFor columns (take j row) asked
    → j < length columns → j < length row →
    (get_or row j 0 ≡ 48 → ⊥) → (get_or row j 0 ≡ 49 → ⊥) → AreAskedFor columns (take (j + 1) row)
    asked
asked_for_still columns row asked j so_far inside within low high = record {
  within = so_far.within;
  value = λ nodes a.
      so_far.value nodes a
      ∙ (and_true (row_matches (take j row) (said nodes columns a))
      ∙ (ap (λ b. row_matches (take j row) (said nodes columns a) && b)
      (allows_both (get_or row j 0) (get_or (said nodes columns a) j false) low high)
      ∙ sym (matches_more row (said nodes columns a) j within (omega (
        arith,
        inside,
        length_said nodes columns a,
      )))));
}

pub asked_for_all : (columns row asked : List ℕ) (k : ℕ) → min (length columns) (length row) ≤ k
    → AreAskedFor columns (take k row) asked → AreAskedFor columns row asked
asked_for_all columns row asked k whole is = record {
  within = is.within;
  value = λ nodes a.
      is.value nodes a
      ∙ matches_whole k row (said nodes columns a)
      (elim (one_ends (length columns) k (length row) whole) [
        | inl all ↦
            inl (omega (arith, all, length_said nodes columns a))
        | inr short ↦ inr short
      ]);
}

-- ---- the literals of rows

-- literals that are all true exactly where none of some rows matches
pub record AreUnmatched (old now : List Node) (columns : List ℕ) (rows : List (List ℕ))
    (none : List ℕ) : Type 0 where
  pub extends : Extends old now
  pub within : AreWithin now none
  pub value : (a : ℕ → Bool) → list_all (literal_value now a) none
      ≡ not (some_matches rows (map (literal_value old a) columns))

pub unmatched_none : (nodes : List Node) (columns : List ℕ) (rows : List (List ℕ))
    → AreUnmatched nodes nodes columns (take 0 rows) []
unmatched_none nodes columns rows = record {
  extends = extends_itself nodes;
  within =
      record { each = λ k inside. absurd (omega arith) };
  value = λ a. refl;
}

neither : (x y : Bool) → (not x && not y) ≡ not (x || y)
neither true y = refl
neither false y = refl

pub unmatched_more : (old now new : List Node) (columns : List ℕ) (rows : List (List ℕ))
    (none more : List ℕ) (k l m : ℕ) → AreWithin old columns
    → AreUnmatched old now columns (take k rows) none
    → Extends now new → HasValue new l (λ a. row_matches (get_or rows k [])
    (map (literal_value now a) columns)) → m / 2 ≡ l / 2 →
    ((nodes : List Node) (a : ℕ → Bool) → literal_value nodes a m ≡ not (literal_value nodes a l))
    → more ≡ none ++ m ∷ [] → k < length rows →
    AreUnmatched old new columns (take (k + 1) rows) more
unmatched_more old now new columns rows none more k l m within so_far extends made node opposite is
    inside = record {
      extends = extends_along old now new so_far.extends extends;
      within = within_push new none more m (still_within now new none extends so_far.within)
          (omega (arith, node, made.within)) is;
      value = λ a.
          ap (list_all (literal_value new a)) is
          ∙ (list_all-append (literal_value new a) none (m ∷ [])
          ∙ (ap (λ b. b && (literal_value new a m && true)) (same_all now new a none extends
          so_far.within ∙ so_far.value a)
          ∙ (ap (λ b. not (some_matches (take k rows) (said old columns a)) && b)
          (sym (and_true (literal_value new a m))
          ∙ (opposite new a ∙ ap not (made.value a
          ∙ ap (row_matches (get_or rows k [])) (same_values old now a columns so_far.extends
          within))))
          ∙ (neither (some_matches (take k rows) (said old columns a)) (row_matches (get_or rows k [])
          (said old columns a))
          ∙ ap not (sym (list_any_more (λ r. row_matches r (said old columns a)) rows k [] inside))))));
    }

pub unmatched_all : (old now new : List Node) (columns : List ℕ) (rows : List (List ℕ))
    (none : List ℕ) (k l : ℕ) → length rows ≤ k →
    AreUnmatched old now columns (take k rows) none
    → HasValue new l (λ a. list_all (literal_value now a) none)
    → HasValue new l (λ a. not (some_matches rows (map (literal_value old a) columns)))
unmatched_all old now new columns rows none k l whole so_far made = record {
  within = made.within;
  value = λ a. made.value a
      ∙ (so_far.value a ∙ ap (λ rs. not (some_matches rs (map (literal_value old a) columns)))
      (take_all k rows whole));
}

-- ---- the literal of a table

column_said : (nodes : List Node) (columns : List ℕ) (a : ℕ → Bool) (j x : ℕ) → j < length columns
    → x ≡ get_or columns j 0 → get_or (said nodes columns a) j false ≡ literal_value nodes a x
column_said nodes columns a j x inside is = get_or-map (literal_value nodes a) columns j 0 false
    inside ∙ ap (literal_value nodes a) (sym is)

-- a table that is always false, or always true
pub table_false : (nodes : List Node) (columns : List ℕ) (t l : ℕ) (b : Bool) → t ≡ 0 → b ≡ false
    → HasValue nodes l (λ a. b) → HasValue nodes l (λ a. table_value t (said nodes columns a))
table_false nodes columns t l b none is made =
    value_as nodes l (λ a. b) (λ a. table_value t (said nodes columns a)) (λ a. is
    ∙ sym (ap (λ u. table_value u (said nodes columns a)) none
    ∙ table-zero (said nodes columns a))) made

pub table_true : (nodes : List Node) (columns : List ℕ) (t l : ℕ) (b : Bool) → length columns ≤ 6
    → t ≡ 18446744073709551615 → b ≡ true →
    HasValue nodes l (λ a. b) → HasValue nodes l (λ a. table_value t (said nodes columns a))
table_true nodes columns t l b few ones is made =
    value_as nodes l (λ a. b) (λ a. table_value t (said nodes columns a))
    (λ a. is ∙ sym (ap (λ u. table_value u (said nodes columns a)) ones
    ∙ table-ones (said nodes columns a) (omega (arith, length_said nodes columns a))))
    made

pub table_constant : (nodes : List Node) (columns : List ℕ) (t l : ℕ) (b : Bool)
    → length columns ≤ 6 →
    (eqb t 0 || eqb t 18446744073709551615) ≡ true → b ≡ not (eqb t 0) → HasValue nodes l (λ a. b) →
    HasValue nodes l (λ a. table_value t (said nodes columns a))
table_constant nodes columns t l b few constant is made =
    elim (or_cases (eqb t 0) (eqb t 18446744073709551615) constant) [
      | inl none ↦ table_false nodes columns t l b (eqb-true t 0 none) (is ∙ ap not none) made
      | inr all ↦ table_true nodes columns t l b few (eqb-true t 18446744073709551615 all) (is
          ∙ ap (λ u. not (eqb u 0)) (eqb-true t 18446744073709551615 all)) made
    ]

-- a table without open columns
pub table_closed : (nodes : List Node) (columns : List ℕ) (t l : ℕ) (b : Bool) (opens : List Bool)
    → DependsOnOpen t (length columns) opens →
    ((j : ℕ) → j < length columns → get_or opens j false ≡ false) → b ≡ eqb (t % 2) 1
    → HasValue nodes l (λ a. b)
    → HasValue nodes l (λ a. table_value t (said nodes columns a))
table_closed nodes columns t l b opens depends closed is made =
    value_as nodes l (λ a. b) (λ a. table_value t (said nodes columns a)) (λ a. is
    ∙ none_open t (length columns) opens (said nodes columns a) depends closed
    (length_said nodes columns a)) made

-- a multiplexer of the cofactors, which were made in turn
pub table_chosen : (n0 n1 n2 n3 : List Node) (columns : List ℕ) (t j x high low h l r : ℕ)
    → AreWithin n0 columns → length columns ≤ 6 →
    j < length columns → x ≡ get_or columns j 0 → IsCofactor t j true high
    → IsCofactor t j false low
    → Extends n0 n1 → Extends n1 n2 → HasValue n1 l (λ a. table_value low (said n0 columns a)) →
    HasValue n2 h (λ a. table_value high (said n1 columns a)) → HasValue n3 r (chosen n2 x h l) →
    HasValue n3 r (λ a. table_value t (said n0 columns a))
table_chosen n0 n1 n2 n3 columns t j x high low h l r within few inside is top bottom more again
    below above made =
    value_as n3 r (chosen n2 x h l) (λ a. table_value t (said n0 columns a))
    (λ a. ap (λ b. cond b (literal_value n2 a h) (literal_value n2 a l)) (column a)
    ∙ (ap (λ b. cond (get_or (said n0 columns a) j false) b (literal_value n2 a l)) (above.value a
    ∙ ap (table_value high) (same_values n0 n1 a columns more within))
    ∙ (ap (λ b. cond (get_or (said n0 columns a) j false) (table_value high (said n0 columns a)) b)
    (again.same l a below.within ∙ below.value a)
    ∙ expansion t j high low (said n0 columns a) top bottom (omega (
      arith,
      inside,
      length_said n0 columns a,
    )) (omega (arith, few, length_said n0 columns a))))) made
  where
    there : IsWithin n0 x
    there = omega (arith, is, within.each j inside)

    column : (a : ℕ → Bool) → literal_value n2 a x ≡ get_or (said n0 columns a) j false
    column a = (extends_along n0 n1 n2 more again).same x a there
        ∙ sym (column_said n0 columns a j x inside is)

-- a gate where the cofactors are opposite
pub table_opposite : (n0 n1 n2 : List Node) (columns : List ℕ) (t j x high low l r : ℕ)
    → AreWithin n0 columns → length columns ≤ 6 →
    j < length columns → x ≡ get_or columns j 0 → IsCofactor t j true high
    → IsCofactor t j false low → low < 2 ^ 64 →
    high ≡ 18446744073709551615 - low
    → Extends n0 n1 → HasValue n1 l (λ a. table_value low (said n0 columns a)) →
    HasValue n2 r (λ a. differ (literal_value n1 a x) (literal_value n1 a l))
    → HasValue n2 r (λ a. table_value t (said n0 columns a))
table_opposite n0 n1 n2 columns t j x high low l r within few inside is top bottom fits opposite
    more below made =
    value_as n2 r (λ a. differ (literal_value n1 a x) (literal_value n1 a l))
    (λ a. table_value t (said n0 columns a))
    (λ a.
    let size : length (said n0 columns a) ≤ 6 = omega (arith, few, length_said n0 columns a) in
    by (literal_value n1 a x) (literal_value n1 a l) (get_or (said n0 columns a) j false)
    (table_value high (said n0 columns a)) (table_value low (said n0 columns a)) (column a)
    (below.value a)
    (ap (λ u. table_value u (said n0 columns a)) opposite ∙ table-not low (said n0 columns a) fits
    size)
    ∙ expansion t j high low (said n0 columns a) top bottom (omega (
      arith,
      inside,
      length_said n0 columns a,
    )) size) made
  where
    there : IsWithin n0 x
    there = omega (arith, is, within.each j inside)

    column : (a : ℕ → Bool) → literal_value n1 a x ≡ get_or (said n0 columns a) j false
    column a = more.same x a there ∙ sym (column_said n0 columns a j x inside is)

    by : (x l v h w : Bool) → x ≡ v → l ≡ w → h ≡ not w → differ x l ≡ cond v h w
    by x l true h w e f g = rw (e, f) (sym g)
    by x l false h w e f g = rw (e, f) refl

-- the same of what a call may have made
pub opposite_made : {E : Type 0} (n0 n1 n2 : List Node) (columns : List ℕ) (t j x high low l : ℕ)
    (r : Result ℕ E) → AreWithin n0 columns →
    length columns ≤ 6 → j < length columns → x ≡ get_or columns j 0 → IsCofactor t j true high
    → IsCofactor t j false low → low < 2 ^ 64
    → high ≡ 18446744073709551615 - low → Extends n0 n1
    → HasValue n1 l (λ a. table_value low (said n0 columns a)) →
    IfOk r (λ m. HasValue n2 m (λ a. differ (literal_value n1 a x) (literal_value n1 a l))) →
    IfOk r (λ m. HasValue n2 m (λ a. table_value t (said n0 columns a)))
opposite_made n0 n1 n2 columns t j x high low l (Ok m) within few inside is top bottom fits opposite
    more below made =
    table_opposite n0 n1 n2 columns t j x high low l m within few inside is top bottom fits opposite
    more below made
opposite_made n0 n1 n2 columns t j x high low l (Err e) within few inside is top bottom fits
    opposite more below made = made

pub chosen_made : {E : Type 0} (n0 n1 n2 n3 : List Node) (columns : List ℕ) (t j x high low h l : ℕ)
    (r : Result ℕ E) → AreWithin n0 columns →
    length columns ≤ 6 → j < length columns → x ≡ get_or columns j 0 → IsCofactor t j true high
    → IsCofactor t j false low → Extends n0 n1 →
    Extends n1 n2
    → HasValue n1 l (λ a. table_value low (said n0 columns a))
    → HasValue n2 h (λ a. table_value high (said n1 columns a)) →
    IfOk r (λ m. HasValue n3 m (chosen n2 x h l))
    → IfOk r (λ m. HasValue n3 m (λ a. table_value t (said n0 columns a)))
chosen_made n0 n1 n2 n3 columns t j x high low h l (Ok m) within few inside is top bottom more again
    below above made =
    table_chosen n0 n1 n2 n3 columns t j x high low h l m within few inside is top bottom more again
    below above made
chosen_made n0 n1 n2 n3 columns t j x high low h l (Err e) within few inside is top bottom more
    again below above made = made

pub unmatched_made : {E : Type 0} (old now new : List Node) (columns : List ℕ)
    (rows : List (List ℕ)) (none : List ℕ) (k : ℕ) (r : Result ℕ E) →
    length rows ≤ k → AreUnmatched old now columns (take k rows) none
    → IfOk r (λ l. HasValue new l (λ a. list_all (literal_value now a) none))
    → IfOk r (λ l. HasValue new l
    (λ a. not (some_matches rows (map (literal_value old a) columns))))
unmatched_made old now new columns rows none k (Ok l) whole so_far made =
    unmatched_all old now new columns rows none k l whole so_far made
unmatched_made old now new columns rows none k (Err e) whole so_far made = made

pub made_as : {E : Type 0} (nodes : List Node) (r : Result ℕ E) (f g : (ℕ → Bool) → Bool)
    → ((a : ℕ → Bool) → f a ≡ g a) → IfOk r (λ l. HasValue nodes l f)
    → IfOk r (λ l. HasValue nodes l g)
made_as nodes (Ok l) f g same made = value_as nodes l f g same made
made_as nodes (Err e) f g same made = made

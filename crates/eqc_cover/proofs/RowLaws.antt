-- Laws of the rows of a cover: those that stand several times, those up to their last literal,
-- those without places, and
-- columns that no row asks for.
use Rattle.std.proofs.Common.{
  ◌≡◌,
  ℕ,
  zero,
  suc,
  ◌+◌,
  ◌<◌,
  ◌≤◌,
  Bool,
  true,
  false,
  not,
  ◌||◌,
  ◌&&◌,
  cond,
  List,
  [],
  ◌∷◌,
  ◌++◌,
  length,
  map,
  take,
  refl,
  sym,
  ◌∙◌,
  ap,
  ◌⊎◌,
  inl,
  inr,
  arith,
  get_or,
  ◌==◌,
  Bor,
  if◌then◌else◌,
}
use Rattle.std.specs.List.{list_any}
use Rattle.std.specs.Str.{bytes_eq}
use Rattle.std.proofs.lemmas.Slice.Eq.{bytes_eq-Decides}
use Rattle.std.proofs.lemmas.List.{take_more, take_all, map-append}
use Rattle.std.proofs.lemmas.List.Folds.{list_any-append}
use Rattle.std.proofs.lemmas.Bool.{or_parts, or_cases, true≢false, false≢true}
use Rattle.eqc_netlist.specs.Cover.{allows, row_matches}
use Rattle.eqc_tree.specs.Holding.{Entry, says}
use Rattle.eqc_cover.specs.Matching.{some_match, cofactor, agrees, said, is_literal, has_free_row}
use Rattle.eqc_cover.specs.Matching.{constrains_first, RowsAlike, MatchAlike}
use Rattle.eqc_cover.proofs.MatchingLaws.{expansion_said, row_matches-empty}

-- ---- rows that stand several times

-- where a row matches, some row matches of rows that have it
covered : (row : List ℕ) (kept : List (Bor (List ℕ))) (vs : List Bool)
    → list_any (λ (key : Bor (List ℕ)). bytes_eq row key.now) kept ≡ true → row_matches row vs
    ≡ true
    → some_match (map (λ (r : Bor (List ℕ)). r.now) kept) vs ≡ true
covered row [] vs seen matches = absurd (true≢false (sym seen))
covered row (key ∷ kept) vs seen matches =
    elim (or_cases (bytes_eq row key.now) (list_any (λ (key : Bor (List ℕ)). bytes_eq row key.now)
    kept) seen) [
      | inl here ↦ ap (λ b. b || some_match (map (λ (r : Bor (List ℕ)). r.now) kept) vs)
          (ap (λ r. row_matches r vs) (sym ((bytes_eq-Decides row key.now).0 here)) ∙ matches)
      | inr there ↦ ap (λ b. row_matches key.now vs || b) (covered row kept vs there matches)
          ∙ last (row_matches key.now vs)
    ]
  where
    last : (a : Bool) → (a || true) ≡ true
    last true = refl
    last false = refl

absorbs : (a b : Bool) → (b ≡ true → a ≡ true) → a ≡ (a || (b || false))
absorbs true b h = refl
absorbs false true h = h refl
absorbs false false h = refl

one_more : (rows : List (List ℕ)) (i : ℕ) (d : List ℕ) (vs : List Bool) → i < length rows
    → some_match (take (i + 1) rows) vs ≡ (some_match (take i rows) vs
    || (row_matches (get_or rows i d) vs || false))
one_more rows i d vs inside = ap (λ rs. some_match rs vs) (take_more rows i d inside)
    ∙ list_any-append (λ r. row_matches r vs) (take i rows) (get_or rows i d ∷ [])

-- a row that is kept, or what says the same of so many columns
pub distinct_more : (n : ℕ) (kept new : List (Bor (List ℕ))) (rows : List (List ℕ)) (i : ℕ)
    (d : List ℕ) (row : Bor (List ℕ)) → i < length rows → RowsAlike n row.now (get_or rows i d)
    → MatchAlike n (map (λ (r : Bor (List ℕ)). r.now) kept) (take i rows) → new ≡ kept ++ row ∷ []
    → MatchAlike n (map (λ (r : Bor (List ℕ)). r.now) new) (take (i + 1) rows)
distinct_more n kept new rows i d row inside is same grown = record {
  alike = λ vs few. ap (λ ks. some_match (map (λ (r : Bor (List ℕ)). r.now) ks) vs) grown
      ∙ (ap (λ rs. some_match rs vs) (map-append (λ (r : Bor (List ℕ)). r.now) kept (row ∷ []))
      ∙ (list_any-append (λ r. row_matches r vs) (map (λ (r : Bor (List ℕ)). r.now) kept) (row.now
      ∷ [])
      ∙ (ap (λ b. b || (row_matches row.now vs || false)) (same.alike vs few)
      ∙ (ap (λ b. some_match (take i rows) vs || (b || false)) (is.alike vs few)
      ∙ sym (one_more rows i d vs inside)))));
}

-- a row that is among those that are kept
pub distinct_stays : (n : ℕ) (kept : List (Bor (List ℕ))) (rows : List (List ℕ)) (i : ℕ)
    (d : List ℕ) (row : Bor (List ℕ)) → i < length rows → RowsAlike n row.now (get_or rows i d)
    → MatchAlike n (map (λ (r : Bor (List ℕ)). r.now) kept) (take i rows)
    → list_any (λ (key : Bor (List ℕ)). bytes_eq row.now key.now) kept ≡ true
    → MatchAlike n (map (λ (r : Bor (List ℕ)). r.now) kept) (take (i + 1) rows)
distinct_stays n kept rows i d row inside is same seen = record {
  alike = λ vs few. absorbs (some_match (map (λ (r : Bor (List ℕ)). r.now) kept) vs)
      (row_matches row.now vs) (covered row.now kept vs seen)
      ∙ (ap (λ b. b || (row_matches row.now vs || false)) (same.alike vs few)
      ∙ (ap (λ b. some_match (take i rows) vs || (b || false)) (is.alike vs few)
      ∙ sym (one_more rows i d vs inside)));
}

-- no rows, and all of them
pub none_alike : (n : ℕ) (rows : List (List ℕ)) → MatchAlike n [] (take 0 rows)
none_alike n rows = record { alike = λ vs few. refl }

pub all_alike : (n : ℕ) (kept rows : List (List ℕ)) (k : ℕ) → length rows ≤ k
    → MatchAlike n kept (take k rows) → MatchAlike n kept rows
all_alike n kept rows k whole same = record {
  alike = λ vs few. same.alike vs few
      ∙ ap (λ rs. some_match rs vs) (take_all k rows whole);
}

-- a row that the set didn't have, and one that it had
pub set_grows : (keys new : List (Bor (List ℕ))) (row : Bor (List ℕ)) (fresh : Bool)
    → fresh ≡ not (list_any (λ (key : Bor (List ℕ)). bytes_eq row.now key.now) keys) → fresh ≡ true
    → new ≡ (if list_any (λ (key : Bor (List ℕ)). bytes_eq row.now key.now) keys then keys else keys
    ++ row ∷ []) → new ≡ keys ++ row ∷ []
set_grows keys new row fresh f is n = n ∙ ap (λ b. if b then keys else keys ++ row ∷ [])
    (by (list_any (λ (key : Bor (List ℕ)). bytes_eq row.now key.now) keys) (sym f ∙ is))
  where
    by : (b : Bool) → not b ≡ true → b ≡ false
    by true h = absurd (false≢true h)
    by false h = refl

pub set_has : (keys new : List (Bor (List ℕ))) (row : Bor (List ℕ)) (fresh : Bool)
    → fresh ≡ not (list_any (λ (key : Bor (List ℕ)). bytes_eq row.now key.now) keys) → fresh ≡ false
    → new ≡ (if list_any (λ (key : Bor (List ℕ)). bytes_eq row.now key.now) keys then keys else keys
    ++ row ∷ [])
    → (list_any (λ (key : Bor (List ℕ)). bytes_eq row.now key.now) keys ≡ true) × (new ≡ keys)
set_has keys new row fresh f stale n =
    let seen = by (list_any (λ (key : Bor (List ℕ)). bytes_eq row.now key.now) keys) (sym f ∙ stale)
    in
    (seen, n ∙ ap (λ b. if b then keys else keys ++ row ∷ []) seen)
  where
    by : (b : Bool) → not b ≡ false → b ≡ true
    by true h = refl
    by false h = absurd (true≢false h)

-- ---- rows up to their last literal

allows_both : (byte : ℕ) (v : Bool) → is_literal byte ≡ false → allows byte v ≡ true
allows_both byte v h =
    let parts = or_parts (byte == 48) (byte == 49) h in
    rw (parts.0, parts.1) refl

-- places past the columns don't matter
pub cut_alike : (n m : ℕ) (row cut : List ℕ) → n ≤ m ⊎ length row ≤ m → cut ≡ take m row
    → RowsAlike n cut row
cut_alike n m row cut far is = record {
  alike = λ vs few. ap (λ r. row_matches r vs) is ∙ by m row vs (elim far [
    | inl all ↦ inl (omega (arith, all, few))
    | inr short ↦ inr short
  ]);
}
  where
    by : (m : ℕ) (row : List ℕ) (vs : List Bool) → length vs ≤ m ⊎ length row ≤ m
        → row_matches (take m row) vs ≡ row_matches row vs
    by m row [] h = refl
    by zero [] (v ∷ vs) h = refl
    by zero (byte ∷ row) (v ∷ vs) (inl h) = absurd (omega arith)
    by zero (byte ∷ row) (v ∷ vs) (inr h) = absurd (omega arith)
    by (suc m) [] (v ∷ vs) h = refl
    by (suc m) (byte ∷ row) (v ∷ vs) (inl h) =
        ap (λ b. allows byte v && b) (by m row vs (inl (omega arith)))
    by (suc m) (byte ∷ row) (v ∷ vs) (inr h) =
        ap (λ b. allows byte v && b) (by m row vs (inr (omega arith)))

-- nor does a last place that asks for nothing
pub last_alike : (n : ℕ) (places front row : List ℕ) (byte : ℕ) → is_literal byte ≡ false
    → places ≡ front ++ byte ∷ [] → RowsAlike n places row → RowsAlike n front row
last_alike n places front row byte free is same = record {
  alike = λ vs few. by front vs
      ∙ (ap (λ r. row_matches r vs) (sym is) ∙ same.alike vs few);
}
  where
    over : (vs : List Bool) → row_matches [] vs ≡ true
    over [] = refl
    over (v ∷ vs) = refl

    by : (front : List ℕ) (vs : List Bool) → row_matches front vs ≡ row_matches (front ++ byte ∷ [])
        vs
    by front [] = refl
    by [] (v ∷ vs) = rw (allows_both byte v free) (sym (over vs))
    by (other ∷ front) (v ∷ vs) = ap (λ b. allows other v && b) (by front vs)

-- ---- rows that ask for nothing

pub free_row : (rows : List (List ℕ)) (vs : List Bool) → has_free_row rows ≡ true
    → some_match rows vs ≡ true
free_row [] vs free = absurd (true≢false (sym free))
free_row (row ∷ rows) vs free = elim (or_cases (length row == 0) (has_free_row rows) free) [
  | inl here ↦ ap (λ b. b || some_match rows vs) (sym (row_matches-empty row vs here))
  | inr there ↦ ap (λ b. row_matches row vs || b) (free_row rows vs there)
      ∙ last (row_matches row vs)
]
  where
    last : (a : Bool) → (a || true) ≡ true
    last true = refl
    last false = refl

pub length_said : {X : Type 0} (entry : X → Entry) (columns : List (Bor X)) (a : ℕ → Bool)
    → length (said entry columns a) ≡ length columns
length_said entry [] a = refl
length_said entry (x ∷ xs) a = ap (λ n. suc n) (length_said entry xs a)

agrees-true : (on : Bool) → on ≡ agrees on true
agrees-true true = refl
agrees-true false = refl

-- a row without places matches whatever the columns are
pub free_columns : {X : Type 0} (entry : X → Entry) (on : Bool) (rows : List (List ℕ))
    (columns : List (Bor X)) (a : ℕ → Bool)
    → has_free_row rows ≡ true → on ≡ agrees on (some_match rows (said entry columns a))
free_columns entry on rows columns a free = agrees-true on
    ∙ ap (agrees on) (sym (free_row rows (said entry columns a) free))

-- ---- columns that no row asks for

-- both cofactors are one
pub cofactors_alike : (rows : List (List ℕ)) → constrains_first rows ≡ false → cofactor true rows
    ≡ cofactor false rows
cofactors_alike [] h = refl
cofactors_alike ([] ∷ rows) h = ap (λ rs. [] ∷ rs) (cofactors_alike rows h)
cofactors_alike ((byte ∷ row) ∷ rows) h =
    let parts = or_parts (is_literal byte || false) (constrains_first rows) h in
    let here = or_parts (is_literal byte) false parts.0 in
    let tests = or_parts (byte == 48) (byte == 49) here.0 in
    rw (tests.0, tests.1) (ap (λ rs. row ∷ rs) (cofactors_alike rows parts.1))

-- one more row
pub constrains_more : (i : ℕ) (rows : List (Bor (List ℕ))) (d : Bor (List ℕ)) (old new : Bool)
    → i < length rows
    → old ≡ constrains_first (map (λ r. r.now) (take i rows))
    → new ≡ (old || list_any is_literal (take 1 (get_or rows i d).now))
    → new ≡ constrains_first (map (λ r. r.now) (take (i + 1) rows))
constrains_more i rows d old new h o n =
    n ∙ (ap (λ b. b || list_any is_literal (take 1 (get_or rows i d).now)) o
    ∙ (ap (λ b. constrains_first (map (λ (r : Bor (List ℕ)). r.now) (take i rows)) || b)
    (sym (or_false (list_any is_literal (take 1 (get_or rows i d).now))))
    ∙ (sym (list_any-append (λ r. list_any is_literal (take 1 r)) (map (λ (r : Bor (List ℕ)). r.now)
    (take i rows)) ((get_or rows i d).now ∷ []))
    ∙ ap constrains_first (sym (ap (map (λ (r : Bor (List ℕ)). r.now)) (take_more rows i d h)
    ∙ map-append (λ (r : Bor (List ℕ)). r.now) (take i rows) (get_or rows i d ∷ []))))))
  where
    or_false : (b : Bool) → (b || false) ≡ b
    or_false true = refl
    or_false false = refl

pub asks_now : (old new asks lit : Bool) → old ≡ false → new ≡ asks → asks ≡ lit
    → new ≡ (old || lit)
asks_now old new asks lit was is told = is ∙ (told ∙ ap (λ b. b || lit) (sym was))

pub constrains_still : (i : ℕ) (rows : List (Bor (List ℕ))) (old new : Bool) → i < length rows
    → old ≡ constrains_first (map (λ r. r.now) (take i rows)) → old ≡ true → new ≡ true
    → new ≡ constrains_first (map (λ r. r.now) (take (i + 1) rows))
constrains_still i [] old new h o was is = absurd (omega arith)
constrains_still i (row ∷ rows) old new h o was is =
    constrains_more i (row ∷ rows) row old new h o (is
    ∙ ap (λ b. b || list_any is_literal (take 1 (get_or (row ∷ rows) i row).now)) (sym was))

-- the column plays no part
pub unconstrained_said : {X : Type 0} (entry : X → Entry) (on : Bool)
    (rows rest : List (Bor (List ℕ))) (x : Bor X) (columns others : List (Bor X)) (a : ℕ → Bool)
    → columns ≡ x ∷ others
    → constrains_first (map (λ (r : Bor (List ℕ)). r.now) rows) ≡ false
    → map (λ (r : Bor (List ℕ)). r.now) rest ≡ cofactor true (map (λ (r : Bor (List ℕ)). r.now)
    rows)
    → agrees on (some_match (map (λ (r : Bor (List ℕ)). r.now) rest) (said entry others a))
    ≡ agrees on (some_match (map (λ (r : Bor (List ℕ)). r.now) rows) (said entry columns a))
unconstrained_said entry on rows rest x columns others a e none r =
    one (says (entry x.now) a) (agrees on (some_match (map (λ (r : Bor (List ℕ)). r.now) rest)
    (said entry others a)))
    ∙ expansion_said entry on rows rest rest x columns others a e r (r
    ∙ cofactors_alike (map (λ (r : Bor (List ℕ)). r.now) rows) none)
  where
    one : (b f : Bool) → f ≡ cond b f f
    one true f = refl
    one false f = refl

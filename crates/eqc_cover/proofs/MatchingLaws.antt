-- Laws of rows, their columns and their values.
use Rattle.std.proofs.Common.{
  ◌≡◌,
  ℕ,
  zero,
  suc,
  ◌+◌,
  ◌<◌,
  ◌≤◌,
  Bool,
  true,
  false,
  ◌&&◌,
  ◌||◌,
  not,
  cond,
  List,
  [],
  ◌∷◌,
  ◌++◌,
  length,
  map,
  take,
  drop,
  refl,
  sym,
  ◌∙◌,
  ap,
  arith,
  ◌==◌,
  eqb-true,
  get_or,
  append-nil,
}
use Rattle.std.proofs.lemmas.Bool.{false≢true}
use Rattle.std.proofs.lemmas.List.{take_more, map-append}
use Rattle.std.specs.Borrow.{Bor}
use Rattle.eqc_netlist.specs.Cover.{allows, row_matches, is_on, is_on_set, cover_value}
use Rattle.eqc_tree.specs.Holding.{Entry, says}
use Rattle.eqc_cover.specs.Matching.{some_match, cofactor, agrees, said, MatchAlike}
use Rattle.eqc_netlist.proofs.RowLemmas.{row_over}

-- a row matches where both its parts do
pub row_matches-split : (n : ℕ) (row : List ℕ) (vs : List Bool) → row_matches row vs
    ≡ (row_matches (take n row) (take n vs) && row_matches (drop n row) (drop n vs))
row_matches-split zero row vs = refl
row_matches-split (suc n) row [] = refl
row_matches-split (suc n) [] (v ∷ vs) = sym (row_over (drop n vs))
row_matches-split (suc n) (byte ∷ row) (v ∷ vs) =
    ap (λ b. allows byte v && b) (row_matches-split n row vs)
    ∙ sym (and_assoc (allows byte v) (row_matches (take n row) (take n vs))
    (row_matches (drop n row) (drop n vs)))
  where
    and_assoc : (a b c : Bool) → ((a && b) && c) ≡ (a && (b && c))
    and_assoc true b c = refl
    and_assoc false b c = refl

-- columns past the row's end don't matter
pub row_matches-short : (n : ℕ) (row : List ℕ) (vs : List Bool) → length row ≤ n
    → row_matches row (take n vs) ≡ row_matches row vs
row_matches-short zero [] vs h = sym (row_over vs)
row_matches-short zero (byte ∷ row) vs h = absurd (omega arith)
row_matches-short (suc n) row [] h = refl
row_matches-short (suc n) [] (v ∷ vs) h = refl
row_matches-short (suc n) (byte ∷ row) (v ∷ vs) h =
    ap (λ b. allows byte v && b) (row_matches-short n row vs (omega arith))

-- the rest of a row and its columns decide what a prefix that matches leaves open
pub row_matches-cons : (byte : ℕ) (row : List ℕ) (v : Bool) (vs : List Bool) → allows byte v ≡ true
    → row_matches (byte ∷ row) (v ∷ vs) ≡ row_matches row vs
row_matches-cons byte row v vs e = ap (λ b. b && row_matches row vs) e

pub row_matches-fails : (byte : ℕ) (row : List ℕ) (v : Bool) (vs : List Bool)
    → allows byte v ≡ false → row_matches (byte ∷ row) (v ∷ vs) ≡ false
row_matches-fails byte row v vs e = ap (λ b. b && row_matches row vs) e

pub cofactor-append : (v : Bool) (xs ys : List (List ℕ)) → cofactor v (xs ++ ys) ≡ cofactor v xs
    ++ cofactor v ys
cofactor-append v [] ys = refl
cofactor-append v ([] ∷ xs) ys = ap (λ rows. [] ∷ rows) (cofactor-append v xs ys)
cofactor-append v ((byte ∷ row) ∷ xs) ys = go (allows byte v) (cofactor v (xs ++ ys))
    (cofactor v xs) (cofactor v ys) (cofactor-append v xs ys)
  where
    go : (b : Bool) (all some more : List (List ℕ)) → all ≡ some ++ more → cond b (row ∷ all) all
        ≡ cond b (row ∷ some) some ++ more
    go true all some more e = ap (λ rows. row ∷ rows) e
    go false all some more e = e

-- a row matches under the value of the first column exactly when its cofactor does
pub some_match-cofactor : (rows : List (List ℕ)) (v : Bool) (vs : List Bool)
    → some_match rows (v ∷ vs) ≡ some_match (cofactor v rows) vs
some_match-cofactor [] v vs = refl
some_match-cofactor ([] ∷ rows) v vs = ap (λ b. b || some_match (cofactor v rows) vs)
    (sym (row_over vs))
some_match-cofactor ((byte ∷ row) ∷ rows) v vs = go (allows byte v) (some_match rows (v ∷ vs))
    (cofactor v rows) (some_match-cofactor rows v vs)
  where
    go : (b some : Bool) (others : List (List ℕ)) → some ≡ some_match others vs
        → ((b && row_matches row vs) || some) ≡ some_match (cond b (row ∷ others) others) vs
    go true some others e = ap (λ b. row_matches row vs || b) e
    go false some others e = e

-- some row of two parts
pub some_match-split : (n : ℕ) (rows : List (List ℕ)) (vs : List Bool) → some_match rows vs
    ≡ (some_match (take n rows) vs || some_match (drop n rows) vs)
some_match-split zero rows vs = refl
some_match-split (suc n) [] vs = refl
some_match-split (suc n) (row ∷ rows) vs =
    ap (λ b. row_matches row vs || b) (some_match-split n rows vs)
    ∙ sym (or_assoc (row_matches row vs) (some_match (take n rows) vs) (some_match (drop n rows)
    vs))
  where
    or_assoc : (a b c : Bool) → ((a || b) || c) ≡ (a || (b || c))
    or_assoc true b c = refl
    or_assoc false b c = refl

-- with no columns each row matches
pub some_match-nil : (row : List ℕ) (rows : List (List ℕ)) → some_match (row ∷ rows) [] ≡ true
some_match-nil row rows = refl

-- Shannon's expansion
pub expansion : (on : Bool) (rows : List (List ℕ)) (v : Bool) (vs : List Bool)
    → cond v (agrees on (some_match (cofactor true rows) vs))
    (agrees on (some_match (cofactor false rows) vs))
    ≡ agrees on (some_match rows (v ∷ vs))
expansion on rows true vs = ap (agrees on) (sym (some_match-cofactor rows true vs))
expansion on rows false vs = ap (agrees on) (sym (some_match-cofactor rows false vs))

pub map_take : {A B : Type 0} (f : A → B) (n : ℕ) (xs : List A) → map f (take n xs)
    ≡ take n (map f xs)
map_take f zero xs = refl
map_take f (suc n) [] = refl
map_take f (suc n) (x ∷ xs) = ap (λ ys. f x ∷ ys) (map_take f n xs)

pub map_drop : {A B : Type 0} (f : A → B) (n : ℕ) (xs : List A) → map f (drop n xs)
    ≡ drop n (map f xs)
map_drop f zero xs = refl
map_drop f (suc n) [] = refl
map_drop f (suc n) (x ∷ xs) = map_drop f n xs

pub row_matches-empty : (row : List ℕ) (vs : List Bool) → (length row == 0) ≡ true
    → true ≡ row_matches row vs
row_matches-empty [] vs h = sym (row_over vs)
row_matches-empty (byte ∷ row) vs h = let e : length (byte ∷ row) ≡ 0 = eqb-true _ _ h in
    absurd (omega arith)

-- the halves of a row and of its columns
pub by_halves : {X : Type 0} (entry : X → Entry) (n : ℕ) (row left right : List ℕ)
    (columns some others : List (Bor X)) (a : ℕ → Bool)
    → some ≡ take n columns → others ≡ drop n columns → left ≡ take n row → right ≡ drop n row
    → (row_matches left (said entry some a) && row_matches right (said entry others a))
    ≡ row_matches row (said entry columns a)
by_halves entry n row left right columns some others a e f l r =
    rw (
      e,
      f,
      l,
      r,
      map_take (λ r. says (entry r.now) a) n columns,
      map_drop (λ r. says (entry r.now) a) n columns,
    )
    (sym (row_matches-split n row (said entry columns a)))

pub by_short : {X : Type 0} (entry : X → Entry) (n : ℕ) (row : List ℕ) (columns some : List (Bor X))
    (a : ℕ → Bool)
    → some ≡ take n columns → length row ≤ n → row_matches row (said entry some a)
    ≡ row_matches row (said entry columns a)
by_short entry n row columns some a e h = rw (e, map_take (λ r. says (entry r.now) a) n columns)
    (row_matches-short n row (said entry columns a) h)

agrees-true : (on : Bool) → on ≡ agrees on true
agrees-true true = refl
agrees-true false = refl

-- with no columns, some row matches where there is one
pub no_columns : {X : Type 0} (entry : X → Entry) (on : Bool) (rows : List (Bor (List ℕ)))
    (columns : List (Bor X)) (a : ℕ → Bool)
    → (length rows == 0) ≡ false → columns ≡ []
    → on ≡ agrees on (some_match (map (λ r. r.now) rows) (said entry columns a))
no_columns entry on [] columns a some none = absurd (false≢true (sym some))
no_columns entry on (row ∷ rows) columns a some none = rw none (agrees-true on)

-- a cofactor for each value of the first column
pub expansion_said : {X : Type 0} (entry : X → Entry) (on : Bool)
    (rows high low : List (Bor (List ℕ))) (x : Bor X) (columns others : List (Bor X)) (a : ℕ → Bool)
    → columns ≡ x ∷ others
    → map (λ r. r.now) high ≡ cofactor true (map (λ r. r.now) rows) → map (λ r. r.now) low
    ≡ cofactor false (map (λ r. r.now) rows)
    → cond (says (entry x.now) a) (agrees on (some_match (map (λ r. r.now) high)
    (said entry others a)))
    (agrees on (some_match (map (λ r. r.now) low) (said entry others a)))
    ≡ agrees on (some_match (map (λ r. r.now) rows) (said entry columns a))
expansion_said entry on rows high low x columns others a e h l =
    rw (e, h, l) (expansion on (map (λ (r : Bor (List ℕ)). r.now) rows) (says (entry x.now) a)
    (said entry others a))

-- one more row, with what is kept of it
pub cofactor_more : (v : Bool) (i : ℕ) (rows : List (Bor (List ℕ))) (d : Bor (List ℕ))
    (old new : List (List ℕ)) → i < length rows
    → old ≡ cofactor v (map (λ r. r.now) (take i rows))
    → new ≡ old ++ cofactor v ((get_or rows i d).now ∷ [])
    → new ≡ cofactor v (map (λ r. r.now) (take (i + 1) rows))
cofactor_more v i rows d old new h o n =
    n ∙ (ap (λ xs. xs ++ cofactor v ((get_or rows i d).now ∷ [])) o
    ∙ (sym (cofactor-append v (map (λ (r : Bor (List ℕ)). r.now) (take i rows))
    ((get_or rows i d).now ∷ []))
    ∙ ap (cofactor v) (sym (ap (map (λ (r : Bor (List ℕ)). r.now)) (take_more rows i d h)
    ∙ map-append (λ (r : Bor (List ℕ)). r.now) (take i rows) (get_or rows i d ∷ [])))))

-- a row that is kept, and one that isn't
pub kept_row : (old new : List (Bor (List ℕ))) (rest : Bor (List ℕ)) (more : List (List ℕ))
    → new ≡ old ++ rest ∷ [] → rest.now ∷ [] ≡ more → map (λ r. r.now) new ≡ map (λ r. r.now) old
    ++ more
kept_row old new rest more n e = ap (map (λ (r : Bor (List ℕ)). r.now)) n
    ∙ (map-append (λ (r : Bor (List ℕ)). r.now) old (rest ∷ [])
    ∙ ap (λ xs. map (λ (r : Bor (List ℕ)). r.now) old ++ xs) e)

pub left_row : (old new : List (Bor (List ℕ))) (more : List (List ℕ)) → new ≡ old → [] ≡ more
    → map (λ r. r.now) new ≡ map (λ r. r.now) old ++ more
left_row old new more n e = ap (map (λ (r : Bor (List ℕ)). r.now)) n
    ∙ (sym (append-nil (map (λ (r : Bor (List ℕ)). r.now) old))
    ∙ ap (λ xs. map (λ (r : Bor (List ℕ)). r.now) old ++ xs) e)

-- with no rows, none matches
pub no_rows : {X : Type 0} (entry : X → Entry) (on : Bool) (rows : List (Bor (List ℕ)))
    (columns : List (Bor X)) (a : ℕ → Bool)
    → (length rows == 0) ≡ true
    → not on ≡ agrees on (some_match (map (λ r. r.now) rows) (said entry columns a))
no_rows entry on [] columns a none = opposite on
  where
    opposite : (on : Bool) → not on ≡ agrees on false
    opposite true = refl
    opposite false = refl
no_rows entry on (row ∷ rows) columns a none = let e : length (row ∷ rows) ≡ 0 = eqb-true _ _ none
    in absurd (omega arith)

-- the one of a list
pub alone : {A : Type 0} (xs : List A) (x : A) → 1 ≤ length xs → length xs < 2 → x ≡ get_or xs 0 x
    → xs ≡ x ∷ []
alone [] x some few is = absurd (omega arith)
alone (y ∷ []) x some few is = ap (λ z. z ∷ []) (sym is)
alone (y ∷ z ∷ xs) x some few is = absurd (omega arith)

-- one column and the first byte of a row
pub one_said : {X : Type 0} (entry : X → Entry) (row : List ℕ) (x : Bor X) (columns : List (Bor X))
    (a : ℕ → Bool)
    → (length row == 0) ≡ false → columns ≡ x ∷ []
    → allows (get_or row 0 0) (says (entry x.now) a) ≡ row_matches row (said entry columns a)
one_said entry [] x columns a some e = absurd (false≢true (sym some))
one_said entry (byte ∷ row) x columns a some e =
    rw e (sym (and_true (allows byte (says (entry x.now) a)) (row_matches row [])
    (row_matches-none row)))
  where
    and_true : (b t : Bool) → t ≡ true → (b && t) ≡ b
    and_true true t e = e
    and_true false t e = refl

    row_matches-none : (row : List ℕ) → row_matches row [] ≡ true
    row_matches-none [] = refl
    row_matches-none (byte ∷ row) = refl

pub no_columns_match : {X : Type 0} (entry : X → Entry) (row : List ℕ) (columns : List (Bor X))
    (a : ℕ → Bool) → length columns < 1 → true ≡ row_matches row (said entry columns a)
no_columns_match entry [] [] a none = refl
no_columns_match entry (byte ∷ row) [] a none = refl
no_columns_match entry row (x ∷ columns) a none = absurd (omega arith)

-- the byte of one column asks for the opposite value, for the value, or for none
pub allows-zero : (byte : ℕ) (v : Bool) → byte ≡ 48 → not v ≡ allows byte v
allows-zero byte v e = rw e refl

pub allows-one : (byte : ℕ) (v : Bool) → byte ≡ 49 → v ≡ allows byte v
allows-one byte v e = rw e refl

-- the halves of some rows
pub some_match-halves : (n : ℕ) (rows some others : List (Bor (List ℕ))) (vs : List Bool)
    → some ≡ take n rows
    → others ≡ drop n rows
    → (some_match (map (λ r. r.now) some) vs || some_match (map (λ r. r.now) others) vs)
    ≡ some_match (map (λ r. r.now) rows) vs
some_match-halves n rows some others vs e f =
    rw (
      e,
      f,
      map_take (λ (r : Bor (List ℕ)). r.now) n rows,
      map_drop (λ (r : Bor (List ℕ)). r.now)
          n rows,
    ) (sym (some_match-split n (map (λ (r : Bor (List ℕ)). r.now) rows) vs))

-- the value of a cover by rows that match alike
pub covered_by : (on : Bool) (n : ℕ) (kept rows : List (List ℕ)) (vs : List Bool) → length vs ≡ n
    → (length rows == 0) ≡ false
    → on ≡ is_on_set rows → MatchAlike n kept rows → agrees on (some_match kept vs)
    ≡ cover_value rows vs
covered_by on n kept [] vs size some is m = absurd (false≢true (sym some))
covered_by on n kept (row ∷ rows) vs size some is m =
    ap (agrees on) (m.alike vs (omega (arith, size)))
    ∙ by on (is_on row) (some_match (row ∷ rows) vs) is
  where
    by : (on other b : Bool) → on ≡ other → agrees on b ≡ cond other b (not b)
    by true true b e = refl
    by true false b e = absurd (false≢true (sym e))
    by false true b e = absurd (false≢true e)
    by false false true e = refl
    by false false false e = refl

pub covered_off : (n : ℕ) (kept rows : List (List ℕ)) (vs : List Bool) → length vs ≡ n
    → (length rows == 0) ≡ false
    → false ≡ is_on_set rows → MatchAlike n kept rows → not (some_match kept vs)
    ≡ cover_value rows vs
covered_off n kept rows vs size some is m = opposite (some_match kept vs)
    ∙ covered_by false n kept rows vs size some is m
  where
    opposite : (b : Bool) → not b ≡ agrees false b
    opposite true = refl
    opposite false = refl

-- no row, and one row alone
pub no_rows_match : (rows : List (Bor (List ℕ))) (vs : List Bool) → length rows < 1
    → false ≡ some_match (map (λ r. r.now) rows) vs
no_rows_match [] vs h = refl
no_rows_match (row ∷ rows) vs h = absurd (omega arith)

pub one_row_said : (rows : List (Bor (List ℕ))) (d : Bor (List ℕ)) (vs : List Bool)
    → 1 ≤ length rows → length rows < 2 → row_matches (get_or rows 0 d).now vs
    ≡ some_match (map (λ r. r.now) rows) vs
one_row_said [] d vs h k = absurd (omega arith)
one_row_said (row ∷ []) d vs h k = sym (or_false (row_matches row.now vs))
  where
    or_false : (b : Bool) → (b || false) ≡ b
    or_false true = refl
    or_false false = refl
one_row_said (row ∷ x ∷ rows) d vs h k = absurd (omega arith)

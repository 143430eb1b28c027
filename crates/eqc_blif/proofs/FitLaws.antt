-- The rows of each cover of a library fit its columns, and end alike.
use Rattle.std.proofs.Common.{◌≡◌, ℕ, suc, zero, ◌+◌, ◌-◌, Bool, true, false, ◌&&◌, ◌||◌, not, List}
use Rattle.std.proofs.Common.{[], ◌∷◌, ◌++◌, length, take, set, get_or, Some, None, eqb, refl, sym}
use Rattle.std.proofs.Common.{◌∙◌, arith, inl, inr, ◌⊎◌}
use Rattle.std.specs.List.{list_all}
use Rattle.std.proofs.lemmas.List.Folds.{list_all-append}
use Rattle.std.proofs.lemmas.Bool.{and_parts, eqb-true}
use Rattle.eqc_blif.specs.Netlist.{CoverOf, ModelOf, no_cover}
use Rattle.eqc_blif.specs.Words.{first_of}
use Rattle.eqc_blif.specs.Reading.{begun, models_of, is_column_value, is_output_value, row_output}
use Rattle.eqc_blif.specs.Reading.{has_row_shape, differs_from_first, first_code, last_cover}
use Rattle.eqc_blif.specs.Reading.{row_added}
use Rattle.eqc_blif.specs.Steps.{cover_with_row}
use Rattle.eqc_blif.specs.Laws.{has_places, ends_alike, rows_fit, RowsFitTheirCovers}
use Rattle.eqc_blif.specs.declared.reader.kind.Kind.TheVariants.{Model, Inputs, Outputs, Names}
use Rattle.eqc_blif.specs.declared.reader.kind.Kind.TheVariants.{Subckt, End, Latch, Skipped}
use Rattle.eqc_blif.specs.declared.reader.kind.Kind.TheVariants.{Unknown, Row}
use Rattle.eqc_blif.proofs.KeptLaws.{IsKept, library_has}

-- a test that holds of all items and of another holds after the other is put in a place
all_set : {A : Type 0} (p : A → Bool) (xs : List A) (i : ℕ) (y : A) → list_all p xs ≡ true
    → p y ≡ true → list_all p (set xs i y) ≡ true
all_set p [] i y all here = refl
all_set p (x ∷ xs) zero y all here = rw (here, (and_parts (p x) (list_all p xs) all).1) refl
all_set p (x ∷ xs) (suc i) y all here =
    let parts = and_parts (p x) (list_all p xs) all in
    rw (parts.0, all_set p xs i y parts.1 here) refl

-- a test that holds of all items and of what stands for none holds of each place
all_get : {A : Type 0} (p : A → Bool) (xs : List A) (i : ℕ) (d : A) → list_all p xs ≡ true
    → p d ≡ true → p (get_or xs i d) ≡ true
all_get p [] i d all none = none
all_get p (x ∷ xs) zero d all none = (and_parts (p x) (list_all p xs) all).0
all_get p (x ∷ xs) (suc i) d all none = all_get p xs i d (and_parts (p x) (list_all p xs) all).1
    none

all_pushed : {A : Type 0} (p : A → Bool) (xs : List A) (y : A) → list_all p xs ≡ true → p y ≡ true
    → list_all p (xs ++ y ∷ []) ≡ true
all_pushed p xs y all here = list_all-append p xs (y ∷ []) ∙ rw (all, here) refl

last_of_all : {A : Type 0} (p : A → Bool) (xs : List A) (y : A) → list_all p (xs ++ y ∷ []) ≡ true
    → (list_all p xs ≡ true) × (p y ≡ true)
last_of_all p xs y all =
    let parts = and_parts (list_all p xs) (p y && true) (sym (list_all-append p xs (y ∷ [])) ∙ all)
    in
    (parts.0, (and_parts (p y) true parts.1).0)

pub one_holds : (a b : Bool) → (a || b) ≡ true → (a ≡ true) ⊎ (b ≡ true)
one_holds true b some = inl refl
one_holds false b some = inr some

ends_in : ℕ → List (List ℕ) → Bool
ends_in byte rows = list_all (λ row. eqb (row_output row) byte) rows

either : (a b : Bool) → (a ≡ true) ⊎ (b ≡ true) → (a || b) ≡ true
either true b some = refl
either false true some = refl
either false false (inl a) = a
either false false (inr b) = b

-- a row that ends as the first of the rows before it, or is the first and ends in `0` or `1`
alike_pushed : (rows : List (List ℕ)) (row : List ℕ) → is_output_value (row_output row) ≡ true
    → differs_from_first rows row ≡ false → (ends_in 48 rows || ends_in 49 rows) ≡ true
    → (ends_in 48 (rows ++ row ∷ []) || ends_in 49 (rows ++ row ∷ [])) ≡ true
unfolding ends_in
alike_pushed [] row value same alike =
    elim (one_holds (eqb (row_output row) 48) (eqb (row_output row) 49) value) [
      | inl low ↦ rw low refl
      | inr high ↦
          let ends : ends_in 49 (row ∷ []) ≡ true = rw high refl in
          either (ends_in 48 (row ∷ [])) (ends_in 49 (row ∷ [])) (inr ends)
    ]
alike_pushed (first ∷ rows) row value same alike =
    let equal : row_output row ≡ row_output first =
    eqb-true _ _ (same_if (eqb (row_output row) (row_output first)) same) in
    let all = (first ∷ rows) ++ row ∷ [] in
    elim (one_holds (ends_in 48 (first ∷ rows)) (ends_in 49 (first ∷ rows)) alike) [
      | inl low ↦
          let last : eqb (row_output row) 48 ≡ true =
          rw equal (and_parts (eqb (row_output first) 48) (ends_in 48 rows) low).0 in
          either (ends_in 48 all) (ends_in 49 all) (inl (all_pushed (λ r. eqb (row_output r) 48)
          (first ∷ rows) row low last))
      | inr high ↦
          let last : eqb (row_output row) 49 ≡ true =
          rw equal (and_parts (eqb (row_output first) 49) (ends_in 49 rows) high).0 in
          either (ends_in 48 all) (ends_in 49 all) (inr (all_pushed (λ r. eqb (row_output r) 49)
          (first ∷ rows) row high last))
    ]
  where
    same_if : (b : Bool) → not b ≡ false → b ≡ true
    same_if true not_false = refl
    same_if false not_false = cc

cover_fits : CoverOf → Bool
cover_fits cover = has_places cover && ends_alike cover

-- a row of the right shape that ends as the first
fits_with_row : (cover : CoverOf) (row : List ℕ) → has_row_shape (length cover.columns) row ≡ true
    → differs_from_first cover.rows row ≡ false → cover_fits cover ≡ true
    → cover_fits (cover_with_row row cover) ≡ true
unfolding cover_fits ends_in
fits_with_row cover row shape same fits =
    let n = length cover.columns in
    let parts = and_parts (has_places cover) (ends_alike cover) fits in
    let shapes = and_parts (eqb (length row) (n + 1)) _ shape in
    let long : length row ≡ n + 1 = eqb-true _ _ shapes.0 in
    let last : length row - 1 ≡ n = omega arith in
    let value : is_output_value (row_output row) ≡ true =
    rw last (and_parts (list_all is_column_value (take n row))
    (is_output_value (get_or row n 0)) shapes.1).1 in
    rw (
      all_pushed (λ r. eqb (length r) (n + 1)) cover.rows row parts.0 shapes.0,
      alike_pushed cover.rows row value same parts.1,
    ) refl

-- a row without a code, added to the last cover
rows_added : (covers : List CoverOf) (row : List ℕ) → list_all cover_fits covers ≡ true
    → has_row_shape (length (last_cover covers).columns) row ≡ true
    → differs_from_first (last_cover covers).rows row ≡ false
    → list_all cover_fits (row_added row covers) ≡ true
unfolding cover_fits
rows_added covers row fit shape same =
    let last = all_get cover_fits covers (length covers - 1) no_cover fit refl in
    all_set cover_fits covers (length covers - 1) (cover_with_row row (last_cover covers)) fit
    (fits_with_row (last_cover covers) row shape same last)

-- a row has none of its codes
row_codes : (outside shape mixed : Bool) → first_code ((6, outside) ∷ (7, not shape) ∷ (8, mixed)
    ∷ []) ≡ None → (shape ≡ true) × (mixed ≡ false)
row_codes true shape mixed none = cc
row_codes false true true none = cc
row_codes false true false none = (refl, refl)
row_codes false false mixed none = cc

-- the last model with other covers
changed : (closed : List ModelOf) (m new : ModelOf) → list_all rows_fit (closed ++ m ∷ []) ≡ true
    → (rows_fit m ≡ true → rows_fit new ≡ true) → list_all rows_fit (closed ++ new ∷ []) ≡ true
changed closed m new fit keeps =
    let parts = last_of_all rows_fit closed m fit in
    all_pushed rows_fit closed new parts.0 (keeps parts.1)

rows_kept : IsKept (λ ms. list_all rows_fit ms ≡ true)
unfolding cover_fits
rows_kept Model ws row closed o none fit = all_pushed rows_fit (models_of closed o)
    (begun (first_of ws)).model fit refl
rows_kept Inputs ws row closed None none fit = fit
rows_kept Inputs ws row closed (Some m) none fit = changed closed m.model _ fit (λ fits. fits)
rows_kept Outputs ws row closed None none fit = fit
rows_kept Outputs ws row closed (Some m) none fit = changed closed m.model _ fit (λ fits. fits)
rows_kept Names ws row closed None none fit = fit
rows_kept Names ws row closed (Some m) none fit =
    changed closed m.model _ fit (λ fits. all_pushed cover_fits m.model.covers _ fits refl)
rows_kept Subckt ws row closed None none fit = fit
rows_kept Subckt ws row closed (Some m) none fit = changed closed m.model _ fit (λ fits. fits)
rows_kept End ws row closed o none fit = fit
rows_kept Row ws row closed None none fit = fit
rows_kept Row ws row closed (Some m) none fit =
    let codes = row_codes (not m.in_cover)
    (has_row_shape (length (last_cover m.model.covers).columns) row)
    (differs_from_first (last_cover m.model.covers).rows row) none in
    changed closed m.model _ fit (λ fits. rows_added m.model.covers row fits codes.0 codes.1)
rows_kept Latch ws row closed o none fit = fit
rows_kept Skipped ws row closed o none fit = fit
rows_kept Unknown ws row closed o none fit = fit

pub rows_fit_their_covers : RowsFitTheirCovers
rows_fit_their_covers limit text library is = library_has (λ ms. list_all rows_fit ms ≡ true)
    rows_kept refl refl limit text library is

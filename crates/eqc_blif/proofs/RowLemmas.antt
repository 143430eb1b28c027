-- Rows and the cover to which they belong.
use Rattle.std.proofs.Common.{◌≡◌, ℕ, ◌+◌, ◌-◌, ◌≤◌, Bool, true, ◌&&◌, List, [], ◌∷◌, ◌++◌, length}
use Rattle.std.proofs.Common.{take, drop, Option, Some, None, refl, sym, ◌∙◌, ap, subst, arith}
use Rattle.std.proofs.Common.{rules, eqb, ◌==◌, inl, inr}
use Rattle.std.specs.List.{list_all}
use Rattle.std.proofs.lemmas.List.{drop_all, drop_at, length_push, get_or_push, take_at, set_at}
use Rattle.std.proofs.lemmas.Bool.{cases_eq, cases_Bool, ne_eqb, eq-eqb, eqb-true, and_parts}
use Rattle.eqc_blif.specs.Netlist.{CoverOf, ModelOf, no_cover}
use Rattle.eqc_netlist.specs.Rows.{rows_in, AreWhole}
use Rattle.eqc_blif.proofs.CutLemmas.{row_pushed_behind, pushed_are_whole}
use Rattle.eqc_blif.specs.Reading.{has_row_shape, is_column_value, is_output_value, last_cover}
use Rattle.eqc_blif.specs.Reading.{row_added, with_new_row}
use Rattle.eqc_blif.specs.Steps.{TakesRow, MayChange, code_behind, row_code, row_code_in}
use Rattle.eqc_blif.specs.Steps.{with_open_cover, cover_with_row}

-- the shape of a row that is cut before its last byte
pub row_shape_is : (n : ℕ) (row values : List ℕ) (output : ℕ) → row ≡ values ++ output ∷ []
    → has_row_shape n row ≡ (eqb (length values) n && (list_all is_column_value values
    && is_output_value output))
row_shape_is n row values output is = elim (cases_eq (length values) n) [
  | inl same ↦
      let long : length (values ++ output ∷ []) ≡ n + 1 = omega (arith, length_push values output)
      in
      rw (
        is,
        eq-eqb (length values) n same,
        eq-eqb (length (values ++ output ∷ [])) (n + 1) long,
        take_at values (output ∷ []) n same,
        get_or_push values output 0 n same,
      ) refl
  | inr other ↦
      let not_long : length (values ++ output ∷ []) ≡ n + 1
      → ⊥ = λ e. other (omega (arith, length_push values output)) in
      rw (
        is,
        ne_eqb (length values) n other,
        ne_eqb (length (values ++ output ∷ [])) (n + 1)
            not_long,
      ) refl
]

pub last_pushed : (covers : List CoverOf) (cover : CoverOf) → last_cover (covers ++ cover ∷ [])
    ≡ cover
last_pushed covers cover =
    let last : length (covers ++ cover ∷ []) - 1 ≡ length covers =
    omega (arith, length_push covers cover) in
    rw last (get_or_push covers cover no_cover (length covers) refl)

pub row_pushed : (covers : List CoverOf) (cover : CoverOf) (row : List ℕ)
    → row_added row (covers ++ cover ∷ []) ≡ covers ++ cover_with_row row cover ∷ []
row_pushed covers cover row =
    let last : length (covers ++ cover ∷ []) - 1 ≡ length covers =
    omega (arith, length_push covers cover) in
    rw (last_pushed covers cover, last) (set_at covers cover [] (cover_with_row row cover)
    (length covers) refl)

-- a row of the cover that is being read is a row of the model's last cover
pub row_taken : (m : ModelOf) (cover new : CoverOf) (row : List ℕ) (code : Option ℕ)
    → TakesRow cover row code new
    → MayChange (row_code_in row (record {
      model = with_open_cover (Some cover) m;
      in_cover =
          true;
    }))
    (with_new_row row (record { model = with_open_cover (Some cover) m; in_cover = true })) code
    (record { model = with_open_cover (Some new) m; in_cover = true })
row_taken m cover new row code taken = (
  taken.0 ∙ ap (λ c. row_code c row) (sym (last_pushed m.covers cover)),
  λ none. ap (λ c. record { model = with_open_cover (Some c) m; in_cover = true }) (taken.1 none)
      ∙ ap (λ covers. record { model = record m { covers = covers }; in_cover = true })
      (sym (row_pushed m.covers cover row)),
)

-- a row without a code has a byte for each column and one for the output
row_fits : (columns : ℕ) (rows : List (List ℕ)) (row : List ℕ) → code_behind columns rows row ≡ None
    → length row ≡ columns + 1
row_fits columns rows row none = elim (cases_Bool (has_row_shape columns row)) [
  | inl fits ↦ eqb-true (length row) (columns + 1) (and_parts (length row == columns + 1) _ fits).0
  | inr other ↦ absurd (search (rules, rw other at none))
]

-- a row that was put behind the bytes of the others
pub row_put_behind : (columns : List (List ℕ)) (output bytes new row : List ℕ) (code : Option ℕ)
    → AreWhole (length columns + 1) bytes → new ≡ bytes ++ row
    → code ≡ code_behind (length columns) (rows_in (length columns + 1) bytes) row
    → TakesRow (record {
      columns = columns;
      output = output;
      rows =
          rows_in (length columns + 1) bytes;
    }) row code
    (record { columns = columns; output = output; rows = rows_in (length columns + 1) new })
row_put_behind columns output bytes new row code are put is = (
  is,
  λ none. ap (λ rows. record { columns = columns; output = output; rows = rows })
      (ap (λ all. rows_in (length columns + 1) all) put ∙ row_pushed_behind (length columns + 1)
      bytes row are (row_fits (length columns) _ row (sym is ∙ none))),
)

-- the bytes are whole rows with it
pub row_put_whole : (columns : ℕ) (rows : List (List ℕ)) (bytes new row : List ℕ)
    → AreWhole (columns + 1) bytes → new ≡ bytes ++ row → code_behind columns rows row ≡ None
    → AreWhole (columns + 1) new
row_put_whole columns rows bytes new row are put none = subst (λ all. AreWhole (columns + 1) all)
    (sym put) (pushed_are_whole (columns + 1) bytes row are (row_fits columns rows row none))

-- the code of a row that was cut off from the bytes before it
pub cut_code : (n columns end : ℕ) (bytes row all before behind : List ℕ) (rows : List (List ℕ))
    → n ≡ columns
    → end ≡ length bytes → all ≡ bytes ++ row → before ≡ take end all → behind ≡ drop end all
    → rows ≡ rows_in (n + 1) before
    → code_behind n rows behind ≡ code_behind columns (rows_in (columns + 1) bytes) row
cut_code n columns end bytes row all before behind rows same long put front back are =
    let before_is : before ≡ bytes = front ∙ (ap (take end) put ∙ take_at bytes row end (sym long))
    in
    let behind_is : behind ≡ row = back ∙ (ap (drop end) put ∙ drop_at bytes row end (sym long)) in
    let rows_are : rows ≡ rows_in (columns + 1) bytes = are ∙ (ap (λ m. rows_in (m + 1) before) same
    ∙ ap (λ bs. rows_in (columns + 1) bs) before_is) in
    ap (λ m. code_behind m rows behind) same ∙ (ap (λ rs. code_behind columns rs behind) rows_are
    ∙ ap (λ r. code_behind columns (rows_in (columns + 1) bytes) r) behind_is)

-- Laws of rows: one more column, one more row, and what becomes of them as tables.
use Rattle.std.proofs.Common.{◌≡◌, ℕ, zero, suc, ◌+◌, ◌-◌, ◌^◌, ◌<◌, ◌≤◌, min, Bool, true, false}
use Rattle.std.proofs.Common.{not, ◌&&◌, ◌||◌, cond, List, [], ◌∷◌, length, map, get_or, take, refl}
use Rattle.std.proofs.Common.{sym, ◌∙◌, ap, ◌⊎◌, inl, inr, arith, add-one, eqb-true, ◌==◌, bit_and}
use Rattle.std.proofs.Common.{bit_or}
use Rattle.std.specs.List.{list_any}
use Rattle.std.proofs.lemmas.Bool.{cases_lt, false≢true, ne_eqb}
use Rattle.std.proofs.lemmas.List.{take_all, get_or-map, length-map}
use Rattle.std.specs.Borrow.{Bor}
use Rattle.std.proofs.lemmas.List.Folds.{list_any_more}
use Rattle.eqc_netlist.specs.Cover.{allows, row_matches, is_on_set, cover_value}
use Rattle.eqc_netlist.proofs.RowLemmas.{row_over}
use Rattle.eqc_cover.specs.Table.{table_value, Tabulates, IsColumn, SaysOfColumn}
use Rattle.eqc_cover.proofs.TableLaws.{table-and, table-or, table-not, table-zero, table-ones}
use Rattle.eqc_cover.proofs.TableLaws.{table_of_column}

-- ---- the columns of a row

and_true : (b : Bool) → (b && true) ≡ b
and_true true = refl
and_true false = refl

and_assoc : (a b c : Bool) → (a && (b && c)) ≡ ((a && b) && c)
and_assoc true b c = refl
and_assoc false b c = refl

matches_suc : (row : List ℕ) (vs : List Bool) (j : ℕ) → j < length row → j < length vs →
    row_matches (take (suc j) row) vs ≡ (row_matches (take j row) vs && allows (get_or row j 0)
    (get_or vs j false))
matches_suc [] vs j inside few = absurd (omega arith)
matches_suc (byte ∷ row) [] j inside few = absurd (omega arith)
matches_suc (byte ∷ row) (v ∷ vs) zero inside few = ap (λ b. allows byte v && b) (row_over vs)
    ∙ and_true (allows byte v)
matches_suc (byte ∷ row) (v ∷ vs) (suc j) inside few =
    ap (λ b. allows byte v && b) (matches_suc row vs j (omega arith) (omega arith))
    ∙ and_assoc (allows byte v) (row_matches (take j row) vs) (allows (get_or row j 0)
    (get_or vs j false))

-- one more column
pub matches_more : (row : List ℕ) (vs : List Bool) (j : ℕ) → j < length row → j < length vs →
    row_matches (take (j + 1) row) vs ≡ (row_matches (take j row) vs && allows (get_or row j 0)
    (get_or vs j false))
matches_more row vs j inside few = ap (λ n. row_matches (take n row) vs) (add-one j)
    ∙ matches_suc row vs j inside few

-- all columns
pub matches_whole : (n : ℕ) (row : List ℕ) (vs : List Bool) → length vs ≤ n ⊎ length row ≤ n
    → row_matches (take n row) vs ≡ row_matches row vs
matches_whole n row [] h = refl
matches_whole zero [] (v ∷ vs) h = refl
matches_whole zero (byte ∷ row) (v ∷ vs) (inl h) = absurd (omega arith)
matches_whole zero (byte ∷ row) (v ∷ vs) (inr h) = absurd (omega arith)
matches_whole (suc n) [] (v ∷ vs) h = refl
matches_whole (suc n) (byte ∷ row) (v ∷ vs) (inl h) =
    ap (λ b. allows byte v && b) (matches_whole n row vs (inl (omega arith)))
matches_whole (suc n) (byte ∷ row) (v ∷ vs) (inr h) =
    ap (λ b. allows byte v && b) (matches_whole n row vs (inr (omega arith)))

-- as many as both have
pub one_ends : (n k m : ℕ) → min n m ≤ k → n ≤ k ⊎ m ≤ k
one_ends n k m h = elim (cases_lt n m) [
  | inl less ↦ inl (omega arith)
  | inr more ↦
      inr (omega arith)
]

-- ---- a byte as a table

pub zero_table : (m j byte : ℕ) → IsColumn m j → m < 2 ^ 64 → byte ≡ 48
    → SaysOfColumn (18446744073709551615 - m) j (allows byte)
zero_table m j byte column fits is =
    record {
      value = λ vs inside few. table-not m vs fits few
          ∙ (ap not ((table_of_column m j column).value vs inside few)
          ∙ ap (λ b. allows b (get_or vs j false)) (sym is));
    }

pub one_table : (m j byte : ℕ) → IsColumn m j → byte ≡ 49 → SaysOfColumn m j (allows byte)
one_table m j byte column is = record {
  value = λ vs inside few. (table_of_column m j column).value
      vs inside few ∙ ap (λ b. allows b (get_or vs j false)) (sym is);
}

allows_both : (byte : ℕ) (v : Bool) → (byte ≡ 48 → ⊥) → (byte ≡ 49 → ⊥) → allows byte v ≡ true
allows_both byte v low high = rw (ne_eqb byte 48 low, ne_eqb byte 49 high) refl

pub free_table : (j byte : ℕ) → (byte ≡ 48 → ⊥) → (byte ≡ 49 → ⊥)
    → SaysOfColumn 18446744073709551615 j (allows byte)
free_table j byte low high = record {
  value = λ vs inside few. table-ones vs few
      ∙ sym (allows_both byte (get_or vs j false) low high);
}

-- ---- a row as a table

pub row_begins : (n : ℕ) (row : List ℕ) → n ≤ 6
    → Tabulates 18446744073709551615 n (row_matches (take 0 row))
row_begins n row few = record { value = λ vs size. table-ones vs (omega arith) ∙ sym (row_over vs) }

pub row_goes_on : (old t new n j : ℕ) (row : List ℕ) → Tabulates old n (row_matches (take j row))
    → SaysOfColumn t j (allows (get_or row j 0)) →
    new ≡ bit_and old t → j < n → n ≤ 6 → j < length row
    → Tabulates new n (row_matches (take (j + 1) row))
row_goes_on old t new n j row before byte is inside few within = record {
  value = λ vs size.
      ap (λ x. table_value x vs) is
      ∙ (table-and old t vs
      ∙ (ap (λ b. b && table_value t vs) (before.value vs size)
      ∙ (ap (λ b. row_matches (take j row) vs && b) (byte.value vs (omega arith) (omega arith))
      ∙ sym (matches_more row vs j within (omega arith)))));
}

pub row_ends : (t n k : ℕ) (row : List ℕ) → min n (length row) ≤ k
    → Tabulates t n (row_matches (take k row)) → Tabulates t n (row_matches row)
row_ends t n k row whole is = record {
  value = λ vs size. is.value vs size
      ∙ matches_whole k row vs (elim (one_ends n k (length row) whole) [
        | inl all ↦ inl (omega arith)
        | inr short ↦ inr short
      ]);
}

-- ---- rows as a table

abbrev pub some_matches : List (List ℕ) → List Bool → Bool
some_matches rows vs = list_any (λ r. row_matches r vs) rows

pub rows_begin : (n : ℕ) (rows : List (List ℕ)) → Tabulates 0 n (some_matches (take 0 rows))
rows_begin n rows = record { value = λ vs size. table-zero vs }

pub rows_go_on : (old t new n k : ℕ) (rows : List (List ℕ))
    → Tabulates old n (some_matches (take k rows)) →
    Tabulates t n (row_matches (get_or rows k [])) → new ≡ bit_or old t → k < length rows
    → Tabulates new n (some_matches (take (k + 1) rows))
rows_go_on old t new n k rows before row is inside = record {
  value = λ vs size.
      ap (λ x. table_value x vs) is
      ∙ (table-or old t vs
      ∙ (ap (λ b. b || table_value t vs) (before.value vs size)
      ∙ (ap (λ b. some_matches (take k rows) vs || b) (row.value vs size)
      ∙ sym (list_any_more (λ r. row_matches r vs) rows k [] inside))));
}

pub rows_end : (t n k : ℕ) (rows : List (List ℕ)) → length rows ≤ k
    → Tabulates t n (some_matches (take k rows)) → Tabulates t n (some_matches rows)
rows_end t n k rows whole is = record {
  value = λ vs size. is.value vs size
      ∙ ap (λ rs. some_matches rs vs) (take_all k rows whole);
}

-- rows that are slices
pub slices_go_on : (old t new n k : ℕ) (rows : List (Bor (List ℕ))) (d : Bor (List ℕ)) →
    Tabulates old n (some_matches (take k (map (λ r. r.now) rows)))
    → Tabulates t n (row_matches (get_or rows k d).now) → new ≡ bit_or old t →
    k < length rows
    → Tabulates new n (some_matches (take (k + 1) (map (λ r. r.now) rows)))
slices_go_on old t new n k rows d before row is inside =
    rows_go_on old t new n k (map (λ r. r.now) rows) before
    (rw (get_or-map (λ (r : Bor (List ℕ)). r.now) rows k d [] inside) row) is (omega (
      arith,
      inside,
      length-map rows (λ (r : Bor (List ℕ)). r.now),
    ))

pub slices_end : (t n k : ℕ) (rows : List (Bor (List ℕ))) → length rows ≤ k
    → Tabulates t n (some_matches (take k (map (λ r. r.now) rows)))
    → Tabulates t n (some_matches (map (λ r. r.now) rows))
slices_end t n k rows whole is = rows_end t n k (map (λ r. r.now) rows)
    (omega (arith, whole, length-map rows (λ (r : Bor (List ℕ)). r.now))) is

-- ---- a cover by its rows

pub cover_on : (rows : List (List ℕ)) (vs : List Bool) → is_on_set rows ≡ true
    → some_matches rows vs ≡ cover_value rows vs
cover_on [] vs on = absurd (false≢true on)
cover_on (row ∷ rows) vs on =
    ap (λ b. cond b (some_matches (row ∷ rows) vs) (not (some_matches (row ∷ rows) vs))) (sym on)

pub cover_off : (rows : List (List ℕ)) (vs : List Bool) → (length rows == 0) ≡ false
    → is_on_set rows ≡ false → not (some_matches rows vs) ≡ cover_value rows vs
cover_off [] vs some off = absurd (false≢true (sym some))
cover_off (row ∷ rows) vs some off =
    ap (λ b. cond b (some_matches (row ∷ rows) vs) (not (some_matches (row ∷ rows) vs))) (sym off)

pub no_row_matches : (rows : List (List ℕ)) (vs : List Bool) → (length rows == 0) ≡ true
    → some_matches rows vs ≡ cover_value rows vs
no_row_matches [] vs none = refl
no_row_matches (row ∷ rows) vs none = let e : length (row ∷ rows) ≡ 0 = eqb-true _ _ none in
    absurd (omega arith)

-- the table of a cover
pub on_table : (t n : ℕ) (rows : List (List ℕ)) → Tabulates t n (some_matches rows)
    → is_on_set rows ≡ true → Tabulates t n (cover_value rows)
on_table t n rows is on = record { value = λ vs size. is.value vs size ∙ cover_on rows vs on }

pub empty_table : (t n : ℕ) (rows : List (List ℕ)) → Tabulates t n (some_matches rows)
    → (length rows == 0) ≡ true → Tabulates t n (cover_value rows)
empty_table t n rows is none = record {
  value = λ vs size. is.value vs size
      ∙ no_row_matches rows vs none;
}

pub off_table : (t n : ℕ) (rows : List (List ℕ)) → t < 2 ^ 64 → n ≤ 6
    → Tabulates t n (some_matches rows) → (length rows == 0) ≡ false →
    is_on_set rows ≡ false → Tabulates (18446744073709551615 - t) n (cover_value rows)
off_table t n rows fits few is some off =
    record {
      value = λ vs size. table-not t vs fits (omega arith) ∙ (ap not (is.value vs size)
          ∙ cover_off rows vs some off);
    }

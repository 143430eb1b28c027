-- Rows of one width, whose bytes stand one behind another.
use Rattle.std.proofs.Common.{◌≡◌, ℕ, zero, suc, ◌+◌, ◌*◌, ◌/◌, ◌<◌, ◌≤◌, List, [], ◌∷◌, ◌++◌}
use Rattle.std.proofs.Common.{length, take, drop, get_or, refl, sym, ◌∙◌, ap, arith}
use Rattle.std.proofs.lemmas.List.{take_all, take-append-le, drop-append-le, length-drop}
use Rattle.std.proofs.lemmas.List.{length-append, drop-drop, nil_from_length}
use Rattle.std.proofs.lemmas.Nat.{mul-le}
use Rattle.std.proofs.Math.Nat.{mul-div_cancel}
use Rattle.eqc_netlist.specs.Rows.{cut_rows, rows_in, AreWhole}

cut_pushed : (width n : ℕ) (bytes row : List ℕ) → length bytes ≡ n * width → length row ≡ width
    → cut_rows width (suc n) (bytes ++ row) ≡ cut_rows width n bytes ++ row ∷ []
cut_pushed width zero bytes row whole wide =
    let none : bytes ≡ [] = nil_from_length bytes (omega (arith, whole)) in
    rw none (ap (λ r. r ∷ []) (take_all width row (omega (arith, wide))))
cut_pushed width (suc n) bytes row whole wide =
    let more : suc n * width ≡ width + n * width = grind arith in
    let within : width ≤ length bytes = omega (arith, whole, more) in
    let rest : length (drop width bytes) ≡ n * width = omega (
      arith,
      length-drop width bytes,
      whole,
      more,
    ) in
    rw (take-append-le width bytes row within, drop-append-le width bytes row within)
    (ap (λ rs. take width bytes ∷ rs) (cut_pushed width n (drop width bytes) row rest wide))

-- no rows
none_in : (width : ℕ) → 0 < width → 0 / width ≡ 0
none_in width wide =
    let none : 0 * width ≡ 0 = omega arith in
    ap (λ n. n / width) (sym none) ∙ mul-div_cancel 0 wide

pub none_are_whole : (width : ℕ) → 0 < width → AreWhole width []
none_are_whole width wide =
    let none : 0 * width ≡ 0 = omega arith in
    record { wide = wide; whole = ap (λ n. n * width) (none_in width wide) ∙ none }

pub no_rows : (width : ℕ) → 0 < width → rows_in width [] ≡ []
unfolding rows_in
no_rows width wide = ap (λ n. cut_rows width n []) (none_in width wide)

-- one row more
one_more : (width : ℕ) (bytes row : List ℕ) → AreWhole width bytes → length row ≡ width
    → length (bytes ++ row) / width ≡ length bytes / width + 1
one_more width bytes row are wide =
    let long : length (bytes ++ row) ≡ (length bytes / width + 1) * width =
    grind (arith, length-append bytes row, are.whole, wide) in
    rw long (mul-div_cancel (length bytes / width + 1) are.wide)

pub pushed_are_whole : (width : ℕ) (bytes row : List ℕ) → AreWhole width bytes → length row ≡ width
    → AreWhole width (bytes ++ row)
pushed_are_whole width bytes row are wide = record {
  wide = are.wide;
  whole = rw (one_more width bytes row are wide) (grind (
    arith,
    length-append bytes row,
    are.whole,
    wide,
  ));
}

pub row_pushed_behind : (width : ℕ) (bytes row : List ℕ) → AreWhole width bytes → length row ≡ width
    → rows_in width (bytes ++ row) ≡ rows_in width bytes ++ row ∷ []
unfolding rows_in
row_pushed_behind width bytes row are wide =
    let count : length (bytes ++ row) / width ≡ suc (length bytes / width) =
    omega (arith, one_more width bytes row are wide) in
    rw count (cut_pushed width (length bytes / width) bytes row (sym are.whole) wide)

-- Rows of one width, whose bytes stand one behind another.
use Rattle.std.proofs.Common.{◌≡◌, ℕ, zero, suc, ◌+◌, ◌*◌, ◌/◌, ◌<◌, ◌≤◌, List, [], length, take}
use Rattle.std.proofs.Common.{drop, get_or, refl, ◌∙◌, ap, arith}
use Rattle.std.proofs.lemmas.List.{drop-drop}
use Rattle.std.proofs.lemmas.Nat.{mul-le}
use Rattle.eqc_netlist.specs.Rows.{cut_rows, rows_in, AreWhole}

cut_count : (width n : ℕ) (bytes : List ℕ) → length (cut_rows width n bytes) ≡ n
cut_count width zero bytes = refl
cut_count width (suc n) bytes = ap (λ m. suc m) (cut_count width n (drop width bytes))

cut_at : (width n k : ℕ) (bytes : List ℕ) → k < n → get_or (cut_rows width n bytes) k []
    ≡ take width (drop (k * width) bytes)
cut_at width zero k bytes inside = absurd (omega (arith, inside))
cut_at width (suc n) zero bytes inside =
    let none : 0 * width ≡ 0 = omega arith in
    rw none refl
cut_at width (suc n) (suc k) bytes inside =
    let there : width + k * width ≡ suc k * width = grind arith in
    cut_at width n k (drop width bytes) (omega (arith, inside))
    ∙ ap (λ xs. take width xs) (drop-drop (k * width) width bytes
    ∙ ap (λ i. drop i bytes) there)

-- how many rows there are
pub row_count : (width : ℕ) (bytes : List ℕ) → length (rows_in width bytes) ≡ length bytes / width
unfolding rows_in
row_count width bytes = cut_count width (length bytes / width) bytes

-- a row ends within the bytes
pub row_within : (width k : ℕ) (bytes : List ℕ) → AreWhole width bytes
    → k < length (rows_in width bytes) → k * width + width ≤ length bytes
row_within width k bytes are inside =
    let below : k + 1 ≤ length bytes / width = omega (arith, inside, row_count width bytes) in
    let bounded : (k + 1) * width ≤ length bytes / width * width =
    mul-le (k + 1) width (length bytes / width) width below (omega arith) in
    let split : (k + 1) * width ≡ k * width + width = grind arith in
    omega (arith, bounded, split, are.whole)

pub row_at : (width k : ℕ) (bytes : List ℕ) → k < length (rows_in width bytes)
    → get_or (rows_in width bytes) k [] ≡ take width (drop (k * width) bytes)
unfolding rows_in
row_at width k bytes inside = cut_at width (length bytes / width) k bytes (omega (
  arith,
  inside,
  cut_count width (length bytes / width) bytes,
))

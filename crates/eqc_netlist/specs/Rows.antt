-- Rows of one width, whose bytes stand one behind another, as a cover keeps them.
use Rattle.std.specs.Prelude.{◌≡◌, ℕ, zero, suc, ◌*◌, ◌/◌, ◌<◌, List, [], ◌∷◌, length, take, drop}

-- the first n rows of bytes, each of so many bytes
abbrev pub cut_rows : ℕ → ℕ → List ℕ → List (List ℕ)
cut_rows width zero bytes = []
cut_rows width (suc n) bytes = take width bytes ∷ cut_rows width n (drop width bytes)

-- all rows of bytes
unfoldable pub rows_in : ℕ → List ℕ → List (List ℕ)
rows_in width bytes = cut_rows width (length bytes / width) bytes

-- no byte stands behind the last row
pub record AreWhole (width : ℕ) (bytes : List ℕ) : Type 0 where
  pub wide : 0 < width
  pub whole : length bytes / width * width ≡ length bytes

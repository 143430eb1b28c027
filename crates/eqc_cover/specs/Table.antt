-- Truth tables of up to six columns: bit i of a table is its value where column j has the value of
-- bit j of i.
use Rattle.std.specs.Prelude.{◌≡◌, ℕ, ◌+◌, ◌*◌, ◌<◌, ◌≤◌, Bool, true, false, List, [], ◌∷◌, length}
use Rattle.std.specs.Prelude.{slice_index_or, slice_set, ◌==◌, if◌then◌else◌}
use Rattle.std.specs.Int.{bit_at}

-- the number whose bit j says whether column j is true
abbrev pub index_of : List Bool → ℕ
index_of [] = 0
index_of (v ∷ vs) = (if v then 1 else 0) + 2 * index_of vs

-- what a table says of values of its columns
unfoldable pub table_value : ℕ → List Bool → Bool
table_value t vs = bit_at t (index_of vs) == 1

-- of all values of so many columns the table says what a function does
pub record Tabulates (t n : ℕ) (f : List Bool → Bool) : Type 0 where
  pub value : (vs : List Bool) → length vs ≡ n → table_value t vs ≡ f vs

-- the table says whether column j is true
pub record IsColumn (t j : ℕ) : Type 0 where
  pub at : (i : ℕ) → i < 64 → bit_at t i ≡ bit_at i j

-- what a table says is a function of the value of column j
pub record SaysOfColumn (t j : ℕ) (f : Bool → Bool) : Type 0 where
  pub value : (vs : List Bool) → j < length vs → length vs ≤ 6 → table_value t vs
      ≡ f (slice_index_or vs j false)

-- the one table says what the other does where column j has this value
pub record IsCofactor (t j : ℕ) (b : Bool) (c : ℕ) : Type 0 where
  pub value : (vs : List Bool) → j < length vs → length vs ≤ 6 → table_value c vs
      ≡ table_value t (slice_set vs j b)

-- of so many columns, a table depends on no others than those that are open
pub record DependsOnOpen (t n : ℕ) (open_columns : List Bool) : Type 0 where
  pub alike : (vs ws : List Bool) → length vs ≡ n → length ws ≡ n
      → ((j : ℕ) → j < n → slice_index_or open_columns j false ≡ true → slice_index_or vs j false
      ≡ slice_index_or ws j false)
      → table_value t vs ≡ table_value t ws

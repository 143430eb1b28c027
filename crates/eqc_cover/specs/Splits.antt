-- A cover over its own columns as splits: tables of the last six columns, and choices by a column
-- between two splits before them.
use Rattle.std.specs.Prelude.{◌≡◌, ℕ, ◌+◌, ◌-◌, ◌<◌, ◌≤◌, Bool, false, List, [], ◌∷◌, ◌++◌, drop}
use Rattle.std.specs.Prelude.{length, map, slice_index_or, sum_by, if◌then◌else◌}
use Rattle.std.specs.Borrow.{Bor}
use Rattle.eqc_netlist.specs.Cover.{cover_value}
use Rattle.eqc_tree.specs.Holding.{Entry, Holding, copies, weight, says}
use Rattle.eqc_cover.specs.declared.covers.Expansion.{Expansion}
use Rattle.eqc_cover.specs.declared.splits.Split.{Split}
use Rattle.eqc_cover.specs.declared.splits.Split.TheVariants.{Table, Choice}
use Rattle.eqc_cover.specs.declared.splits.Choice.{Choice as ChoiceOf}
use Rattle.eqc_cover.specs.Matching.{said}
use Rattle.eqc_cover.specs.Table.{table_value}

-- the values of the last six columns
abbrev pub last_columns : List Bool → List Bool
last_columns vs = drop (length vs - 6) vs

-- what a choice says where splits before it say this
abbrev pub choice_value : ChoiceOf → List Bool → List Bool → Bool
choice_value c made vs = if slice_index_or vs c.column false then slice_index_or made c.high false
    else slice_index_or made c.low false

-- what a split says where those before it say this
abbrev pub split_value : Split → List Bool → List Bool → Bool
split_value (Table t) made vs = table_value t (last_columns vs)
split_value (Choice c) made vs = choice_value c made vs

-- what splits say, behind what those before them say
abbrev pub values_after : List Split → List Bool → List Bool → List Bool
values_after [] vs made = made
values_after (s ∷ splits) vs made = values_after splits vs (made ++ split_value s made vs ∷ [])

-- what the split at a place says
abbrev pub value_of : List Split → ℕ → List Bool → Bool
value_of splits k vs = slice_index_or (values_after splits vs []) k false

-- more splits, among which those there were say what they said
pub record Grows (old new : List Split) : Type 0 where
  pub more : length old ≤ length new
  pub same : (k : ℕ) → k < length old → (vs : List Bool) → value_of new k vs ≡ value_of old k vs

-- the split at a place says of so many columns what a function does
pub record IsMadeAt (n : ℕ) (splits : List Split) (k : ℕ) (f : List Bool → Bool) : Type 0 where
  pub within : k < length splits
  pub value : (vs : List Bool) → length vs ≡ n → value_of splits k vs ≡ f vs

-- the split at a place says what a choice between earlier ones does
pub record IsChosenAt (old new : List Split) (k : ℕ) (c : ChoiceOf) : Type 0 where
  pub within : k < length new
  pub value : (vs : List Bool) → value_of new k vs
      ≡ (if slice_index_or vs c.column false then value_of old c.high vs else value_of old c.low vs)

-- the rows of a cover, the number of its columns, and splits of which the one at a place has its
-- value
pub record CoverSplits : Type 0 where
  pub rows : List (List ℕ)
  pub columns : ℕ
  pub splits : List Split
  pub place : ℕ

-- the split at its place has the value of the cover of these rows over so many columns
pub record IsExpansionOf (rows : List (List ℕ)) (columns : ℕ) (e : Expansion) : Type 0 where
  pub value : (vs : List Bool) → length vs ≡ columns → value_of e.splits.items e.place vs
      ≡ cover_value rows vs

-- how often an entry is held by references
abbrev pub tally : {X : Type 0} → (X → Entry) → List X → Entry → ℕ
tally entry rs e = sum_by (λ r. weight (entry r) e) rs

-- these references are held
pub record AreOwned {X : Type 0} (entry : X → Entry) (d : Holding) (rs : List X) : Type 0 where
  pub held : (e : Entry) → tally entry rs e ≤ copies d e

-- these references more
pub record Gathers {X : Type 0} (entry : X → Entry) (old new : Holding) (rs : List X) : Type 0 where
  pub variables : new.variables ≡ old.variables
  pub held : (e : Entry) → copies new e ≡ copies old e + tally entry rs e

-- references say under an assignment what splits say of columns
pub record SaySplits {X : Type 0} (entry : X → Entry) (rs : List X) (splits : List Split)
    (columns : List (Bor X)) (a : ℕ → Bool) : Type 0 where
  pub values : map (λ r. says (entry r) a) rs ≡ values_after splits (said entry columns a) []

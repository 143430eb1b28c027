-- The outputs that are told as left undecided where the comparison of a pair is given up.
use Rattle.std.specs.Prelude.{◌≡◌, ℕ, zero, suc, ◌+◌, ◌<◌, Bool, true, false, not, ◌&&◌, List, []}
use Rattle.std.specs.Prelude.{length, map, slice_index_or, if◌then◌else◌}
use Rattle.std.specs.List.{All}
use Rattle.eqc_pair.specs.PairOf.{PairOf}
use Rattle.eqc_pair.specs.Matched.{is_chosen}
use Rattle.eqc_report.specs.Words.{has_number, is_of_any}
use Rattle.eqc_report.specs.declared.undecided.Left.{Left}
use Rattle.eqc_report.specs.declared.undecided.Undecided.{Undecided}
use Rattle.eqc_report.specs.declared.undecided.word.Word.{Word}

-- the name of an output of the first netlist
abbrev pub output_name : PairOf → ℕ → List ℕ
output_name p o = slice_index_or p.first.outputs o []

-- whether an output is compared: it is chosen
abbrev pub is_compared : PairOf → ℕ → Bool
is_compared p o = is_chosen p.chosen (output_name p o)

-- whether it is left: it is compared, and not marked as equal
abbrev pub is_left : PairOf → List Bool → ℕ → Bool
is_left p marks o = is_compared p o && not (slice_index_or marks o false)

-- whether an output is compared, and its name begins and ends so, with a number between; and
-- whether it is left, too
abbrev pub is_compared_in : PairOf → List ℕ → List ℕ → ℕ → Bool
is_compared_in p before after o = is_compared p o && has_number before after (output_name p o)

abbrev pub is_left_in : PairOf → List Bool → List ℕ → List ℕ → ℕ → Bool
is_left_in p marks before after o = is_left p marks o && has_number before after (output_name p o)

-- whether it is left, and of none of these words
abbrev pub is_alone : PairOf → List Bool → List Word → ℕ → Bool
is_alone p marks words o = is_left p marks o && not (is_of_any (output_name p o) words)

-- of how many of the first n outputs a test holds, and of how many of all
abbrev pub count_below : (ℕ → Bool) → ℕ → ℕ
count_below test zero = 0
count_below test (suc n) = if test n then count_below test n + 1 else count_below test n

abbrev pub count_of : PairOf → (ℕ → Bool) → ℕ
count_of p test = count_below test (length p.first.outputs)

-- a word of which outputs are left, with their number, and with that of its outputs that are
-- compared
pub record IsWordLeft (p : PairOf) (marks : List Bool) (w : Word) : Type 0 where
  pub some : 0 < w.left
  pub left : w.left ≡ count_of p (is_left_in p marks w.before.items w.after.items)
  pub all : w.all ≡ count_of p (is_compared_in p w.before.items w.after.items)

-- the name of an output of which a test holds
abbrev pub IsNameWhere : PairOf → (ℕ → Bool) → List ℕ → Type 0
IsNameWhere p test name = (o : ℕ) × (o < length p.first.outputs) × (test o ≡ true)
    × (output_name p o ≡ name)

-- the names that are told
abbrev pub told : Left → List (List ℕ)
told left = map (λ name. name.items) left.names.items

-- what is told of a pair: how many outputs are compared, and left; words of which some are; how
-- many of those that are left are of none
-- of these words, and names of such
pub record IsTold (p : PairOf) (marks : List Bool) (left : Left) : Type 0 where
  pub compared : left.compared ≡ count_of p (is_compared p)
  pub count : left.count ≡ count_of p (is_left p marks)
  pub words : All (IsWordLeft p marks) left.words.items
  pub alone : left.alone ≡ count_of p (is_alone p marks left.words.items)
  pub names : All (IsNameWhere p (is_alone p marks left.words.items)) (told left)

-- what is told stays
abbrev pub KeepsTold : Undecided → Undecided → Type 0
KeepsTold old new = new.left ≡ old.left

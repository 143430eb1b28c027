-- Whether two netlists have the same inputs and outputs, which outputs are chosen, and the order of
-- variables that a text
-- gives: words between blanks and line ends, `#` cutting to the end of its line.
use Rattle.std.specs.Prelude.{◌≡◌, ℕ, ◌<◌, Bool, true, false, ◌||◌, ◌&&◌, not, List, [], ◌∷◌}
use Rattle.std.specs.Prelude.{length, map, filter, nat_lt, slice_index_or, ◌==◌, Option, Some, None}
use Rattle.std.specs.Prelude.{Vec, MatchOption, if◌then◌else◌}
use Rattle.std.specs.declared.alloc.Global.{Global}
use Rattle.std.specs.List.{list_all, position_or_len, before_first, slice_split, flat_map}
use Rattle.std.specs.Str.{bytes_eq}
use Rattle.eqc_netlist.specs.Names.{is_named, has_twice}

-- where a name first stands in a list, or its length
abbrev pub position_of : List (List ℕ) → List ℕ → ℕ
position_of names name = position_or_len (λ other. bytes_eq name other) names

-- whether each name of the second list is in the first
abbrev pub has_all : List (List ℕ) → List (List ℕ) → Bool
has_all names others = list_all (λ name. is_named names name) others

-- whether two lists have the same names
abbrev pub same_names : List (List ℕ) → List (List ℕ) → Bool
same_names xs ys = has_all xs ys && has_all ys xs

-- where each of the others stands among the names, or none where one of them isn't there
abbrev pub ArePlaces : List (List ℕ) → List (List ℕ) → Option (Vec ℕ Global) → Type 0
ArePlaces names others found =
    MatchOption found
    (has_all names others ≡ false)
    (λ all. (has_all names others ≡ true) × (all.items ≡ map (position_of names) others))

-- whether an output is one of those that are chosen by their names: without a name all are
abbrev pub is_chosen : List (List ℕ) → List ℕ → Bool
is_chosen [] output = true
is_chosen (name ∷ names) output = is_named (name ∷ names) output

-- the outputs that are chosen, in their order
abbrev pub chosen_outputs : List (List ℕ) → List (List ℕ) → List (List ℕ)
chosen_outputs names outputs = filter (is_chosen names) outputs

-- marks of the outputs that are not chosen
pub record AreLeftOut (names outputs : List (List ℕ)) (marks : List Bool) : Type 0 where
  pub each : (o : ℕ) → o < length outputs → slice_index_or marks o false
      ≡ not (is_chosen names (slice_index_or outputs o []))

-- marks of the outputs that are not chosen, or none where a name is that of no output
abbrev pub MarkLeftOut : List (List ℕ) → List (List ℕ) → Option (Vec Bool Global) → Type 0
MarkLeftOut outputs names found =
    MatchOption found
    (has_all outputs names ≡ false)
    (λ marks. (has_all outputs names ≡ true) × AreLeftOut names outputs marks.items)

-- a space, a tab or a CR
abbrev pub is_blank : ℕ → Bool
is_blank b = (b == 32) || ((b == 9) || (b == 13))

abbrev pub is_word : List ℕ → Bool
is_word part = not (length part == 0)

-- the words of a line of an order text
abbrev pub line_words : List ℕ → List (List ℕ)
line_words line = filter is_word (slice_split is_blank (before_first (λ b. b == 35) line))

-- the words of an order text
abbrev pub order_words : List ℕ → List (List ℕ)
order_words text = flat_map line_words (slice_split (λ b. b == 10) text)

-- the code of an order text over these inputs: 2 too long, 51 a word that is no input, 52 a word
-- twice,
-- 53 an input that isn't there
abbrev pub order_code : List (List ℕ) → List ℕ → Option ℕ
order_code inputs text =
    if nat_lt 16777216 (length text) then Some 2
    else if not (has_all inputs (order_words text)) then Some 51
    else if has_twice (order_words text) then Some 52
    else if not (has_all (order_words text) inputs) then Some 53
    else None

-- Laws of the definitions, in the words of a reader of the format: what follows a text, what
-- changes nothing, how lines
-- are numbered, and what a library never has.
use Rattle.std.specs.Prelude.{◌≡◌, ℕ, ◌+◌, ◌≤◌, Bool, true, false, not, ◌&&◌, ◌||◌, List, [], ◌∷◌}
use Rattle.std.specs.Prelude.{◌++◌, length, map, ◌==◌, Some, None, Result, Ok, Err}
use Rattle.std.specs.List.{list_all, list_any}
use Rattle.eqc_blif.specs.Netlist.{CoverOf, ModelOf}
use Rattle.eqc_blif.specs.Lines.{is_blank, is_trailing, physical, clean, continues, numbered}
use Rattle.eqc_blif.specs.Lines.{logical, logical_lines}
use Rattle.eqc_netlist.specs.Names.{has_twice}
use Rattle.eqc_blif.specs.Kind.{kind_of_line}
use Rattle.eqc_blif.specs.Reading.{Outcome, start, is_bad_byte, row_output, line_code, after}
use Rattle.eqc_blif.specs.Reading.{first_fault, outcome_of_lines, is_too_long, outcome}
use Rattle.eqc_blif.specs.declared.reader.kind.Kind.TheVariants.{Skipped}

-- whether the last of some lines ends in a backslash
abbrev pub ends_open : List (ℕ × List ℕ) → Bool
ends_open [] = false
ends_open (line ∷ []) = continues line.1
ends_open (line ∷ (next ∷ more)) = ends_open (next ∷ more)

-- whether a text ends in a line that a further line would be joined to
abbrev pub is_continued : List ℕ → Bool
is_continued text = ends_open (numbered 1 text)

-- a text behind an LF adds its lines, numbered on
abbrev pub TextsFollow : Type 0
TextsFollow = (text more : List ℕ) → is_continued text ≡ false → logical_lines (text ++ 10 ∷ more)
    ≡ logical_lines text ++ logical (numbered (1 + length (physical text)) more)

-- the first faulty line of a text stays the first, whatever text follows it
abbrev pub FirstFaultStays : Type 0
FirstFaultStays =
    (limit : ℕ) (text more : List ℕ) (fault : ℕ × ℕ) → is_continued text ≡ false
    → is_too_long limit (text ++ 10 ∷ more) ≡ false
    → first_fault start (logical_lines text) ≡ Some fault → outcome limit (text ++ 10 ∷ more)
    ≡ Err fault

-- a line with a code, and no line with a code before it
pub record IsFirstFault (lines : List (ℕ × List ℕ)) (fault : ℕ × ℕ) : Type 0 where
  pub before : List (ℕ × List ℕ)
  pub line : List ℕ
  pub behind : List (ℕ × List ℕ)
  pub cut : lines ≡ before ++ (fault.0, line) ∷ behind
  pub faultless : first_fault start before ≡ None
  pub faulty : line_code (after start before) line ≡ Some fault.1

-- what is found is a first fault
abbrev pub FoundIsFirst : Type 0
FoundIsFirst = (lines : List (ℕ × List ℕ)) (fault : ℕ × ℕ) → first_fault start lines ≡ Some fault
    → IsFirstFault lines fault

-- a first fault is what is found, so there is at most one
abbrev pub FirstIsFound : Type 0
FirstIsFound = (lines : List (ℕ × List ℕ)) (fault : ℕ × ℕ) → IsFirstFault lines fault
    → first_fault start lines ≡ Some fault

-- a comment changes no line
abbrev pub CommentsChangeNothing : Type 0
CommentsChangeNothing = (line comment : List ℕ) → clean (line ++ 35 ∷ comment) ≡ clean line

-- trailing spaces, tabs and CRs change no line
abbrev pub TrailingBlanksChangeNothing : Type 0
TrailingBlanksChangeNothing = (line blanks : List ℕ) → list_all is_trailing blanks ≡ true
    → clean (line ++ blanks) ≡ clean line

-- the bytes of lines, without their numbers
abbrev pub contents : List (ℕ × List ℕ) → List (List ℕ)
contents lines = map (λ line. line.1) lines

-- an inserted line of blanks and comment only renumbers
abbrev pub BlankLinesOnlyRenumber : Type 0
BlankLinesOnlyRenumber =
    (text line more : List ℕ) → is_continued text ≡ false → list_any (λ byte. byte == 10) line
    ≡ false
    → list_all is_blank (clean line) ≡ true
    → contents (logical_lines (text ++ 10 ∷ (line ++ 10 ∷ more)))
    ≡ contents (logical_lines (text ++ 10 ∷ more))

-- the library or the code, without the line
abbrev pub unnumbered : Outcome → Result (List ModelOf) ℕ
unnumbered (Ok library) = Ok library
unnumbered (Err fault) = Err fault.1

-- texts whose lines have the same bytes give the same library or code
abbrev pub NumbersPlayNoPart : Type 0
NumbersPlayNoPart =
    (limit : ℕ) (text other : List ℕ) → is_too_long limit text ≡ false → is_too_long limit other
    ≡ false
    → contents (logical_lines text) ≡ contents (logical_lines other)
    → unnumbered (outcome limit text) ≡ unnumbered (outcome limit other)

-- a skipped line without a bad byte changes nothing
abbrev pub SkippedLinesChangeNothing : Type 0
SkippedLinesChangeNothing =
    (before behind : List (ℕ × List ℕ)) (n : ℕ) (line : List ℕ) → kind_of_line line ≡ Skipped
    → list_any is_bad_byte line ≡ false
    → outcome_of_lines (before ++ (n, line) ∷ behind) ≡ outcome_of_lines (before ++ behind)

-- the numbers of lines rise from least on
abbrev pub rises : ℕ → List (ℕ × List ℕ) → Type 0
rises least [] = Unit {0}
rises least (line ∷ lines) = (least ≤ line.0) × rises (line.0 + 1) lines

abbrev pub LineNumbersRise : Type 0
LineNumbersRise = (text : List ℕ) → rises 1 (logical_lines text)

-- lines with an LF between each two
abbrev pub with_line_ends : List (List ℕ) → List ℕ
with_line_ends [] = []
with_line_ends (line ∷ []) = line
with_line_ends (line ∷ (next ∷ more)) = line ++ 10 ∷ with_line_ends (next ∷ more)

-- the lines of a text make the text
abbrev pub LinesMakeTheText : Type 0
LinesMakeTheText = (text : List ℕ) → with_line_ends (physical text) ≡ text

-- lines without LF that are put together are cut into the same lines
abbrev pub LinesAreCutAgain : Type 0
LinesAreCutAgain = (first : List ℕ) (lines : List (List ℕ))
    → list_any (list_any (λ byte. byte == 10)) (first ∷ lines) ≡ false
    → physical (with_line_ends (first ∷ lines)) ≡ first ∷ lines

-- whether no model has a name twice in its inputs or twice in its outputs
abbrev pub lists_are_distinct : List ModelOf → Bool
lists_are_distinct ms = list_all (λ m. not (has_twice m.inputs) && not (has_twice m.outputs)) ms

-- a library has distinct model names, and no name twice in a list of inputs or outputs
abbrev pub LibrariesHaveNoNameTwice : Type 0
LibrariesHaveNoNameTwice =
    (limit : ℕ) (text : List ℕ) (library : List ModelOf) → outcome limit text ≡ Ok library
    → (has_twice (map (λ m. m.name) library) ≡ false) × (lists_are_distinct library ≡ true)

-- each row of a cover has a place for each column, and one for the output
abbrev pub has_places : CoverOf → Bool
has_places cover = list_all (λ row. length row == length cover.columns + 1) cover.rows

-- the rows of a cover all end in `0`, or all in `1`
abbrev pub ends_alike : CoverOf → Bool
ends_alike cover = list_all (λ row. row_output row == 48) cover.rows
    || list_all (λ row. row_output row == 49) cover.rows

abbrev pub rows_fit : ModelOf → Bool
rows_fit m = list_all (λ cover. has_places cover && ends_alike cover) m.covers

-- in a library the rows of each cover fit its columns, and end alike
abbrev pub RowsFitTheirCovers : Type 0
RowsFitTheirCovers = (limit : ℕ) (text : List ℕ) (library : List ModelOf) → outcome limit text
    ≡ Ok library → list_all rows_fit library ≡ true

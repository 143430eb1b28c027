-- What is at fault in a text that is refused, named so that it can be found in the text.
use Rattle.std.specs.Prelude.{◌≡◌, ◌≢◌, ℕ, ◌-◌, ◌<◌, Bool, true, false, not, List, [], ◌∷◌, ◌++◌}
use Rattle.std.specs.Prelude.{length, map, take, slice_get, slice_index_or, Option, Some, None}
use Rattle.std.specs.Prelude.{if◌then◌else◌, ◌==◌}
use Rattle.std.specs.List.{list_any}
use Rattle.std.specs.Result.{result_err}
use Rattle.eqc_blif.specs.Lines.{physical, clean, logical_lines}
use Rattle.eqc_blif.specs.Words.{words, first_of, behind_first, arguments, without_blanks, is_pair}
use Rattle.eqc_netlist.specs.Names.{is_named, StandsTwice}
use Rattle.eqc_blif.specs.Kind.{kind_of, kind_of_line}
use Rattle.eqc_blif.specs.Reading.{
  After,
  start,
  models,
  current,
  opened,
  is_in_cover,
  stands_in_model,
  last_cover,
  is_bad_byte,
  row_output,
  has_row_shape,
  lacks_words,
  statement_code,
  then_line,
  after,
  outcome,
}
use Rattle.eqc_blif.specs.declared.reader.kind.Kind.TheVariants.{Model, Inputs, Outputs, Subckt}
use Rattle.eqc_blif.specs.declared.reader.kind.Kind.TheVariants.{Unknown, Row}
use Rattle.eqc_blif.specs.declared.finding.Finding.{Finding}
use Rattle.eqc_blif.specs.declared.finding.Finding.TheVariants.{
  ControlByte,
  TextTooLong,
  UnknownCommand,
  BehindEnd,
  RowOutsideCover,
  RowShape,
  RowOutput,
  NoPair,
  NoWord,
  ModelTwice,
  InputTwice,
  OutputTwice,
  NoStatement,
}

-- the line and the code by which a text that may have so many bytes is refused, where it is
abbrev pub refused : ℕ → List ℕ → Option (ℕ × ℕ)
refused limit text = result_err (outcome limit text)

-- the line of a number, with what stands before it
abbrev pub line_at : ℕ → After → List (ℕ × List ℕ) → Option (After × List ℕ)
line_at n st [] = None
line_at n st (line ∷ lines) = if line.0 == n then Some (st, line.1) else line_at n
    (then_line line.1 st) lines

-- the physical line of a number, as far as it counts: without its comment and what trails
abbrev pub counted : List ℕ → ℕ → List ℕ
counted text n = slice_index_or (map clean (physical text)) (n - 1) []

-- 1: a byte at a line and a column, both from 1, is bad, and none before it is
abbrev pub IsBadByte : List ℕ → ℕ → ℕ → ℕ → Type 0
IsBadByte text byte line column =
    (0 < line) × (0 < column) × (slice_get (counted text line) (column - 1) ≡ Some byte)
    × (is_bad_byte byte ≡ true)
    × (list_any is_bad_byte (take (column - 1) (counted text line)) ≡ false)
    × (list_any (list_any is_bad_byte) (take (line - 1) (map clean (physical text))) ≡ false)

-- 3: a line begins with this word, which is no command that is known
abbrev pub BeginsUnknown : List ℕ → List ℕ → Type 0
BeginsUnknown line word = (word ≡ first_of (words line)) × (kind_of word ≡ Unknown)

-- 5: a line begins with this word, a statement that stands in a model, and no model is open
abbrev pub IsBehindEnd : After → List ℕ → List ℕ → Type 0
IsBehindEnd st line word = (word ≡ first_of (words line)) × (stands_in_model (kind_of word) ≡ true)
    × (st.open_model ≡ None)

-- a line is this row, as it stands
abbrev pub IsRow : List ℕ → List ℕ → Type 0
IsRow line row = (kind_of_line line ≡ Row) × (row ≡ line)

-- 6: a row follows no cover
abbrev pub IsOutsideCover : After → List ℕ → List ℕ → Type 0
IsOutsideCover st line row = IsRow line row × (is_in_cover st.open_model ≡ false)

-- 7: a row has, without its blanks, another shape than the columns of its cover want, of which
-- there are so many
abbrev pub IsMisshapen : After → List ℕ → List ℕ → ℕ → Type 0
IsMisshapen st line row columns =
    IsRow line row × (columns ≡ length (last_cover (current st).covers).columns)
    × (has_row_shape columns (without_blanks row) ≡ false)

-- 8: a row ends in one value, and the first row of its cover in another
abbrev pub EndsOtherwise : After → List ℕ → ℕ → ℕ → Type 0
EndsOtherwise st line output first =
    (kind_of_line line ≡ Row) × (output ≡ row_output (without_blanks line))
    × (0 < length (last_cover (current st).covers).rows)
    × (first ≡ row_output (slice_index_or (last_cover (current st).covers).rows 0 []))
    × (output ≢ first)

-- 9: a word of `.subckt` behind its model is no pair
abbrev pub IsNoPair : List ℕ → List ℕ → Type 0
IsNoPair line word = (kind_of_line line ≡ Subckt) × (is_named (behind_first (arguments line)) word
    ≡ true) × (is_pair word ≡ false)

-- 10: a line has no word behind this command, which wants one
abbrev pub LacksWord : List ℕ → List ℕ → Type 0
LacksWord line command = (command ≡ first_of (words line))
    × (lacks_words (kind_of command) (arguments line) ≡ true)

-- 11: a line opens a model of a name that a model before it has
abbrev pub IsModelTwice : After → List ℕ → List ℕ → Type 0
IsModelTwice st line name = (kind_of_line line ≡ Model) × (name ≡ first_of (arguments line))
    × (is_named (map (λ m. m.name) (models st)) name ≡ true)

-- 12: with the words of a line a name stands twice in the inputs of its model
abbrev pub IsInputTwice : After → List ℕ → List ℕ → Type 0
IsInputTwice st line name = (kind_of_line line ≡ Inputs)
    × StandsTwice ((current st).inputs ++ arguments line) name

-- 12: or in its outputs
abbrev pub IsOutputTwice : After → List ℕ → List ℕ → Type 0
IsOutputTwice st line name = (kind_of_line line ≡ Outputs)
    × StandsTwice ((current st).outputs ++ arguments line) name

-- the code that a finding is about
abbrev pub finding_code : Finding → ℕ
finding_code (ControlByte byte line column) = 1
finding_code (TextTooLong bytes limit) = 2
finding_code (UnknownCommand word) = 3
finding_code (BehindEnd word) = 5
finding_code (RowOutsideCover row) = 6
finding_code (RowShape row columns) = 7
finding_code (RowOutput output first) = 8
finding_code (NoPair word) = 9
finding_code (NoWord command) = 10
finding_code (ModelTwice name) = 11
finding_code (InputTwice name) = 12
finding_code (OutputTwice name) = 12
finding_code NoStatement = 13

-- what is named holds of a line and of what stands before its statement
abbrev pub HoldsOfLine : After → List ℕ → Finding → Type 0
HoldsOfLine st line (UnknownCommand word) = BeginsUnknown line word
HoldsOfLine st line (BehindEnd word) = IsBehindEnd st line word
HoldsOfLine st line (RowOutsideCover row) = IsOutsideCover st line row
HoldsOfLine st line (RowShape row columns) = IsMisshapen st line row columns
HoldsOfLine st line (RowOutput output first) = EndsOtherwise st line output first
HoldsOfLine st line (NoPair word) = IsNoPair line word
HoldsOfLine st line (NoWord command) = LacksWord line command
HoldsOfLine st line (ModelTwice name) = IsModelTwice st line name
HoldsOfLine st line (InputTwice name) = IsInputTwice st line name
HoldsOfLine st line (OutputTwice name) = IsOutputTwice st line name
HoldsOfLine st line finding = ⊥

-- what is named holds of the line that a text is refused for
abbrev pub HoldsOfRefusedLine : ℕ → List ℕ → Finding → Type 0
HoldsOfRefusedLine limit text finding =
    (n : ℕ) × (st : After) × (line : List ℕ) × (refused limit text ≡ Some (n, finding_code finding))
    × (line_at n start (logical_lines text) ≡ Some (st, line))
    × HoldsOfLine (opened (kind_of_line line) st) line finding

-- what is named holds of the text, which may have so many bytes and is refused for it
abbrev pub IsAtFault : ℕ → List ℕ → Finding → Type 0
IsAtFault limit text (ControlByte byte line column) = ((n : ℕ) × (refused limit text ≡ Some (n, 1)))
    × IsBadByte text byte line column
IsAtFault limit text (TextTooLong bytes told) = (refused limit text ≡ Some (0, 2))
    × (bytes ≡ length text) × (told ≡ limit) × (told < bytes)
IsAtFault limit text NoStatement = (refused limit text ≡ Some (0, 13))
    × (models (after start (logical_lines text)) ≡ [])
IsAtFault limit text finding = HoldsOfRefusedLine limit text finding

-- whether a refusal is one of those of which something is named: all but that of a latch
abbrev pub has_finding : Option (ℕ × ℕ) → Bool
has_finding None = false
has_finding (Some fault) = not (fault.1 == 4)

-- what is at fault, or none where nothing is refused for what is named here
abbrev pub IsExplained : ℕ → List ℕ → Option Finding → Type 0
IsExplained limit text None = has_finding (refused limit text) ≡ false
IsExplained limit text (Some finding) = IsAtFault limit text finding

-- the code of the statement of a line
abbrev pub code_of : After → List ℕ → Option ℕ
code_of st line = statement_code st (kind_of_line line) (arguments line) (without_blanks line)

-- what is named of a line with a code, or none at a latch
abbrev pub IsLineExplained : After → List ℕ → ℕ → Option Finding → Type 0
IsLineExplained st line code None = code ≡ 4
IsLineExplained st line code (Some finding) = (finding_code finding ≡ code)
    × HoldsOfLine st line finding

-- What a text means (BLIF 1992; the codes are this project's): what stands after its first lines,
-- the code of a line
-- against that, the first fault, and the library of a text without a fault.
use Rattle.std.specs.Prelude.{
  ℕ,
  ◌+◌,
  ◌-◌,
  Bool,
  true,
  false,
  ◌||◌,
  ◌&&◌,
  not,
  List,
  [],
  ◌∷◌,
  ◌++◌,
  length,
  take,
  map,
  slice_set,
  slice_index,
  slice_index_or,
  nat_lt,
  if◌then◌else◌,
  ◌==◌,
  Option,
  Some,
  None,
  is_some,
  Result,
  Ok,
  Err,
}
use Rattle.std.specs.List.{list_all, list_any}
use Rattle.std.specs.Option.{option_map}
use Rattle.eqc_blif.specs.Netlist.{CoverOf, ModelOf, no_model, no_cover}
use Rattle.eqc_blif.specs.Lines.{logical_lines}
use Rattle.eqc_blif.specs.Words.{first_of, behind_first, arguments, without_blanks, is_pair}
use Rattle.eqc_blif.specs.Words.{cover_of, instance_of}
use Rattle.eqc_netlist.specs.Names.{is_named, has_twice}
use Rattle.eqc_blif.specs.Kind.{kind_of_line}
use Rattle.eqc_blif.specs.declared.reader.kind.Kind.{Kind}
use Rattle.eqc_blif.specs.declared.reader.kind.Kind.TheVariants.{Model, Inputs, Outputs, Names}
use Rattle.eqc_blif.specs.declared.reader.kind.Kind.TheVariants.{Subckt, End, Latch, Skipped}
use Rattle.eqc_blif.specs.declared.reader.kind.Kind.TheVariants.{Unknown, Row}

-- The open model, and whether the last line that is no row is `.names` of it.
pub record OpenModel : Type 0 where
  pub model : ModelOf
  pub in_cover : Bool

-- What stands after some lines: the closed models, and the open one.
pub record After : Type 0 where
  pub closed : List ModelOf
  pub open_model : Option OpenModel

abbrev pub start : After
start = record { closed = []; open_model = None }

-- a model that begins, with this name
abbrev pub begun : List ℕ → OpenModel
begun name = record {
  model = record {
    name = name;
    inputs = [];
    outputs = [];
    covers = [];
    instances = [];
  };
  in_cover = false;
}

abbrev pub models_of : List ModelOf → Option OpenModel → List ModelOf
models_of closed None = closed
models_of closed (Some m) = closed ++ m.model ∷ []

-- all models so far, in the order of the text
abbrev pub models : After → List ModelOf
models st = models_of st.closed st.open_model

abbrev pub model_or_none : Option OpenModel → ModelOf
model_or_none None = no_model
model_or_none (Some m) = m.model

-- the model in which a line stands
abbrev pub current : After → ModelOf
current st = model_or_none st.open_model

abbrev pub is_in_cover : Option OpenModel → Bool
is_in_cover None = false
is_in_cover (Some m) = m.in_cover

-- the last of some covers, to which a row belongs
abbrev pub last_cover : List CoverOf → CoverOf
last_cover covers = slice_index_or covers (length covers - 1) no_cover

-- whether a statement of this kind stands in a model: all do but `.model` itself and what is
-- skipped
abbrev pub stands_in_model : Kind → Bool
stands_in_model Model = false
stands_in_model Skipped = false
stands_in_model kind = true

-- a first statement that is no `.model` is preceded by the opening of a model with the empty name
abbrev pub opened : Kind → After → After
opened kind st =
    if stands_in_model kind && not (is_some st.open_model || nat_lt 0 (length st.closed))
    then record { closed = []; open_model = Some (begun []) } else st

-- a byte below 32 other than tab, or 127
abbrev pub is_bad_byte : ℕ → Bool
is_bad_byte byte = (nat_lt byte 32 && not (byte == 9)) || (byte == 127)

abbrev pub is_unknown : Kind → Bool
is_unknown Unknown = true
is_unknown kind = false

abbrev pub is_latch : Kind → Bool
is_latch Latch = true
is_latch kind = false

-- after `.end`, a line other than `.model`
abbrev pub is_outside : After → Kind → Bool
is_outside st kind = stands_in_model kind && not (is_some st.open_model)

-- a row where the last line that is no row isn't `.names` of this model
abbrev pub is_row_outside : After → Kind → Bool
is_row_outside st Row = not (is_in_cover st.open_model)
is_row_outside st kind = false

-- `0`, `1` or `-`
abbrev pub is_column_value : ℕ → Bool
is_column_value byte = (byte == 48) || (byte == 49) || (byte == 45)

-- `0` or `1`
abbrev pub is_output_value : ℕ → Bool
is_output_value byte = (byte == 48) || (byte == 49)

-- the last byte of a row: the value of the output
abbrev pub row_output : List ℕ → ℕ
row_output row = slice_index row (length row - 1)

-- a row for n columns: n of `0`, `1` and `-`, then `0` or `1`
abbrev pub has_row_shape : ℕ → List ℕ → Bool
has_row_shape n row =
    (length row == n + 1) && (list_all is_column_value (take n row)
    && is_output_value (slice_index row n))

-- a row of another shape than that of the cover above it
abbrev pub is_misshapen : After → Kind → List ℕ → Bool
is_misshapen st Row row = not (has_row_shape (length (last_cover (current st).covers).columns) row)
is_misshapen st kind row = false

-- whether a row ends otherwise than the first of the rows before it
abbrev pub differs_from_first : List (List ℕ) → List ℕ → Bool
differs_from_first [] row = false
differs_from_first (first ∷ rows) row = not (row_output row == row_output first)

-- a row whose last byte differs from that of the cover's first row
abbrev pub is_mixed : After → Kind → List ℕ → Bool
is_mixed st Row row = differs_from_first (last_cover (current st).covers).rows row
is_mixed st kind row = false

-- a pair without `=`, or with an empty formal or actual
abbrev pub has_bad_pair : Kind → List (List ℕ) → Bool
has_bad_pair Subckt ws = not (list_all is_pair (behind_first ws))
has_bad_pair kind ws = false

-- `.names` or `.subckt` without a word
abbrev pub lacks_words : Kind → List (List ℕ) → Bool
lacks_words Names ws = length ws == 0
lacks_words Subckt ws = length ws == 0
lacks_words kind ws = false

-- a model name used before
abbrev pub is_model_again : After → Kind → List (List ℕ) → Bool
is_model_again st Model ws = is_named (map (λ m. m.name) (models st)) (first_of ws)
is_model_again st kind ws = false

-- a name twice in one model's inputs, or twice in its outputs
abbrev pub is_name_again : After → Kind → List (List ℕ) → Bool
is_name_again st Inputs ws = has_twice ((current st).inputs ++ ws)
is_name_again st Outputs ws = has_twice ((current st).outputs ++ ws)
is_name_again st kind ws = false

-- the codes from 3 on for a statement of some kind, each with whether its condition holds against
-- what stands before
-- it; ws are the words behind the command, row is the line without blanks
abbrev pub statement_conditions : After → Kind → List (List ℕ) → List ℕ → List (ℕ × Bool)
statement_conditions st kind ws row =
    (3, is_unknown kind)
    ∷ (4, is_latch kind)
    ∷ (5, is_outside st kind)
    ∷ (6, is_row_outside st kind)
    ∷ (7, is_misshapen st kind row)
    ∷ (8, is_mixed st kind row)
    ∷ (9, has_bad_pair kind ws)
    ∷ (10, lacks_words kind ws)
    ∷ (11, is_model_again st kind ws)
    ∷ (12, is_name_again st kind ws)
    ∷ []

-- the first code whose condition holds
abbrev pub first_code : List (ℕ × Bool) → Option ℕ
first_code [] = None
first_code (condition ∷ more) = if condition.1 then Some condition.0 else first_code more

abbrev pub statement_code : After → Kind → List (List ℕ) → List ℕ → Option ℕ
statement_code st kind ws row = first_code (statement_conditions st kind ws row)

-- the code of a line against what stands before it, where it has one: on one line the lowest counts
abbrev pub line_code : After → List ℕ → Option ℕ
line_code st line =
    if list_any is_bad_byte line then Some 1
    else statement_code (opened (kind_of_line line) st) (kind_of_line line) (arguments line)
    (without_blanks line)

abbrev pub with_inputs : List (List ℕ) → ModelOf → ModelOf
with_inputs ws m = record m { inputs = m.inputs ++ ws }

abbrev pub with_outputs : List (List ℕ) → ModelOf → ModelOf
with_outputs ws m = record m { outputs = m.outputs ++ ws }

abbrev pub with_cover : List (List ℕ) → ModelOf → ModelOf
with_cover ws m = record m { covers = m.covers ++ cover_of ws ∷ [] }

abbrev pub with_instance : List (List ℕ) → ModelOf → ModelOf
with_instance ws m = record m { instances = m.instances ++ instance_of ws ∷ [] }

-- the covers with one more row in the last
abbrev pub row_added : List ℕ → List CoverOf → List CoverOf
row_added row covers = slice_set covers (length covers - 1) (record (last_cover covers) {
  rows =
      (last_cover covers).rows ++ row ∷ [];
})

abbrev pub with_row : List ℕ → ModelOf → ModelOf
with_row row m = record m { covers = row_added row m.covers }

-- the open model after a line that declares something in it and is no `.names`
abbrev pub declared : (ModelOf → ModelOf) → OpenModel → OpenModel
declared change m = record { model = change m.model; in_cover = false }

-- the open model after `.names`
abbrev pub with_new_cover : List (List ℕ) → OpenModel → OpenModel
with_new_cover ws m = record { model = with_cover ws m.model; in_cover = true }

-- the open model after a row
abbrev pub with_new_row : List ℕ → OpenModel → OpenModel
with_new_row row m = record { model = with_row row m.model; in_cover = m.in_cover }

abbrev pub in_open_model : (OpenModel → OpenModel) → After → After
in_open_model change st = record {
  closed = st.closed;
  open_model =
      option_map change st.open_model;
}

-- what stands after a statement without a code, of some kind
abbrev pub then_statement : Kind → List (List ℕ) → List ℕ → After → After
then_statement Model ws row st = record {
  closed = models st;
  open_model =
      Some (begun (first_of ws));
}
then_statement Inputs ws row st = in_open_model (declared (with_inputs ws)) st
then_statement Outputs ws row st = in_open_model (declared (with_outputs ws)) st
then_statement Names ws row st = in_open_model (with_new_cover ws) st
then_statement Subckt ws row st = in_open_model (declared (with_instance ws)) st
then_statement End ws row st = record { closed = models st; open_model = None }
then_statement Row ws row st = in_open_model (with_new_row row) st
then_statement Latch ws row st = st
then_statement Skipped ws row st = st
then_statement Unknown ws row st = st

-- what stands after one more line
abbrev pub then_line : List ℕ → After → After
then_line line st = then_statement (kind_of_line line) (arguments line) (without_blanks line)
    (opened (kind_of_line line) st)

-- what stands after some more lines
abbrev pub after : After → List (ℕ × List ℕ) → After
after st [] = st
after st (line ∷ lines) = after (then_line line.1 st) lines

-- the number of a line with its code, or else what is found behind it
abbrev pub or_behind : ℕ → Option ℕ → Option (ℕ × ℕ) → Option (ℕ × ℕ)
or_behind n None behind = behind
or_behind n (Some code) behind = Some (n, code)

-- the first line that has a code, with its code
abbrev pub first_fault : After → List (ℕ × List ℕ) → Option (ℕ × ℕ)
first_fault st [] = None
first_fault st (line ∷ lines) = or_behind line.0 (line_code st line.1)
    (first_fault (then_line line.1 st) lines)

-- what a text gives: its library, or the number of a line with a code
abbrev pub Outcome : Type 0
Outcome = Result (List ModelOf) (ℕ × ℕ)

-- the library, or code 13 where no statement opened a model
abbrev pub library_or_none : List ModelOf → Outcome
library_or_none [] = Err (0, 13)
library_or_none (m ∷ ms) = Ok (m ∷ ms)

abbrev pub outcome_by : Option (ℕ × ℕ) → List ModelOf → Outcome
outcome_by (Some fault) ms = Err fault
outcome_by None ms = library_or_none ms

-- what lines give
abbrev pub outcome_of_lines : List (ℕ × List ℕ) → Outcome
outcome_of_lines lines = outcome_by (first_fault start lines) (models (after start lines))

-- whether a text has more bytes than this limit
abbrev pub is_too_long : ℕ → List ℕ → Bool
is_too_long limit text = nat_lt limit (length text)

-- the library of a text that may have so many bytes, or its first fault
abbrev pub outcome : ℕ → List ℕ → Outcome
outcome limit text = if is_too_long limit text then Err (0, 2) else outcome_of_lines
    (logical_lines text)

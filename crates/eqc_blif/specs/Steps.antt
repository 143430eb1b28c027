-- What the parts of the reader do, in the words of the definitions: the cursor over lines, one row
-- against its cover,
-- one statement against what stands before it, and what `read` answers.
use Rattle.std.specs.Prelude.{◌≡◌, ℕ, ◌+◌, Bool, true, false, ◌||◌, not, List, [], ◌∷◌, ◌++◌}
use Rattle.std.specs.Prelude.{length, map, Option, Some, None, if◌then◌else◌, ◌==◌}
use Rattle.std.specs.List.{list_all}
use Rattle.eqc_blif.specs.Netlist.{CoverOf, InstanceOf, ModelOf}
use Rattle.eqc_blif.specs.Lines.{numbered}
use Rattle.eqc_blif.specs.Words.{is_pair, pair_of, behind_first}
use Rattle.eqc_netlist.specs.Names.{is_named, has_twice}
use Rattle.eqc_blif.specs.Reading.{
  After,
  OpenModel,
  first_code,
  last_cover,
  has_row_shape,
  differs_from_first,
  statement_code,
  then_statement,
  line_code,
  then_line,
  declared,
  with_inputs,
  with_outputs,
  with_new_cover,
  with_instance,
  with_new_row,
}
use Rattle.eqc_blif.specs.declared.reader.kind.Kind.{Kind}
use Rattle.eqc_blif.specs.declared.reader.kind.Kind.TheVariants.{Inputs, Outputs, Names, Subckt}
use Rattle.eqc_blif.specs.declared.reader.kind.Kind.TheVariants.{Row}

-- one of two bytes
abbrev pub is_either : ℕ → ℕ → ℕ → Bool
is_either first second byte = (byte == first) || (byte == second)

-- an LF or `#`: where the part of a line ends that counts
abbrev pub is_mark : ℕ → Bool
is_mark = is_either 10 35

-- the clean lines of what is left of a text, which may have ended
abbrev pub numbered_rest : ℕ → Option (List ℕ) → List (ℕ × List ℕ)
numbered_rest n None = []
numbered_rest n (Some text) = numbered n text

-- how many lines are left at most
abbrev pub room : Option (List ℕ) → ℕ
room None = 0
room (Some text) = length text + 1

-- an item that came off the front of a list, or its end
abbrev pub TakesFirst : {A : Type 0} → List A → Option A → List A → Type 0
TakesFirst old None new = (old ≡ []) × (new ≡ [])
TakesFirst old (Some x) new = old ≡ x ∷ new

-- a logical line: its one physical line, or what was joined
abbrev pub whole_or_joined : Option (List ℕ) → List ℕ → List ℕ
whole_or_joined None joined = joined
whole_or_joined (Some line) joined = line

-- what a model declares
pub record DeclarationsOf : Type 0 where
  pub inputs : List (List ℕ)
  pub outputs : List (List ℕ)
  pub covers : List CoverOf
  pub instances : List InstanceOf

abbrev pub no_declarations : DeclarationsOf
no_declarations = record { inputs = []; outputs = []; covers = []; instances = [] }

-- the model with a name and declarations
abbrev pub model_of : List ℕ → DeclarationsOf → ModelOf
model_of name d = record {
  name = name;
  inputs = d.inputs;
  outputs = d.outputs;
  covers = d.covers;
  instances = d.instances;
}

-- whether the open model, if there is one, has another name than the closed ones
abbrev pub is_new_name : List ModelOf → Option OpenModel → Bool
is_new_name closed None = true
is_new_name closed (Some m) = not (is_named (map (λ c. c.name) closed) m.model.name)

-- names that may be none
abbrev pub names_or_none : Option (List (List ℕ)) → List (List ℕ)
names_or_none None = []
names_or_none (Some names) = names

-- the many names where there are some, else the few
abbrev pub few_or_many : List (List ℕ) → Option (List (List ℕ)) → List (List ℕ)
few_or_many few None = few
few_or_many few (Some many) = many

-- the model with the cover that is still being read
abbrev pub with_open_cover : Option CoverOf → ModelOf → ModelOf
with_open_cover None m = m
with_open_cover (Some cover) m = record m { covers = m.covers ++ cover ∷ [] }

abbrev pub cover_with_row : List ℕ → CoverOf → CoverOf
cover_with_row row cover = record cover { rows = cover.rows ++ row ∷ [] }

-- the code of a row behind the rows of a cover of so many columns
abbrev pub code_behind : ℕ → List (List ℕ) → List ℕ → Option ℕ
code_behind columns rows row = first_code ((7, not (has_row_shape columns row))
    ∷ (8, differs_from_first rows row) ∷ [])

-- the code of a row of a cover
abbrev pub row_code : CoverOf → List ℕ → Option ℕ
row_code cover row = code_behind (length cover.columns) cover.rows row

-- the row was added to the cover, or its code says why it wasn't
abbrev pub TakesRow : CoverOf → List ℕ → Option ℕ → CoverOf → Type 0
TakesRow old row code new = (code ≡ row_code old row) × (code ≡ None → new ≡ cover_with_row row old)

-- the pairs of some words, where each of them is one
abbrev pub ArePairs : List (List ℕ) → Option (List (List ℕ × List ℕ)) → Type 0
ArePairs ws None = list_all is_pair ws ≡ false
ArePairs ws (Some pairs) = (list_all is_pair ws ≡ true) × (pairs ≡ map pair_of ws)

-- the pair that a word is, where it is one
abbrev pub IsPair : List ℕ → Option (List ℕ × List ℕ) → Type 0
IsPair word None = is_pair word ≡ false
IsPair word (Some pair) = (is_pair word ≡ true) × (pair ≡ pair_of word)

-- a statement gives its code, and without one leads from old to new
abbrev pub Takes : After → Kind → List (List ℕ) → List ℕ → Option ℕ → After → Type 0
Takes old kind ws row code new = (code ≡ statement_code old kind ws row)
    × (code ≡ None → new ≡ then_statement kind ws row old)

-- a line gives its code, and without one leads from old to new
abbrev pub TakesLine : After → List ℕ → Option ℕ → After → Type 0
TakesLine old line code new = (code ≡ line_code old line) × (code ≡ None → new ≡ then_line line old)

-- a change has a code, and without one it leads to the wanted value
abbrev pub MayChange : {A : Type 0} → Option ℕ → A → Option ℕ → A → Type 0
MayChange wanted_code wanted code new = (code ≡ wanted_code) × (code ≡ None → new ≡ wanted)

abbrev pub inputs_code : List (List ℕ) → OpenModel → Option ℕ
inputs_code ws m = if has_twice (m.model.inputs ++ ws) then Some 12 else None

abbrev pub outputs_code : List (List ℕ) → OpenModel → Option ℕ
outputs_code ws m = if has_twice (m.model.outputs ++ ws) then Some 12 else None

abbrev pub cover_code : List (List ℕ) → Option ℕ
cover_code ws = if length ws == 0 then Some 10 else None

abbrev pub instance_code : List (List ℕ) → Option ℕ
instance_code ws = if not (list_all is_pair (behind_first ws)) then Some 9 else
    (if length ws == 0 then Some 10 else None)

abbrev pub row_code_in : List ℕ → OpenModel → Option ℕ
row_code_in row m = if not m.in_cover then Some 6 else row_code (last_cover m.model.covers) row

-- the kinds of statements that declare something in the open model
abbrev pub declares : Kind → Bool
declares Inputs = true
declares Outputs = true
declares Names = true
declares Subckt = true
declares Row = true
declares kind = false

-- the code of such a statement in a model
abbrev pub declaration_code : Kind → List (List ℕ) → List ℕ → OpenModel → Option ℕ
declaration_code Inputs ws row m = inputs_code ws m
declaration_code Outputs ws row m = outputs_code ws m
declaration_code Names ws row m = cover_code ws
declaration_code Subckt ws row m = instance_code ws
declaration_code Row ws row m = row_code_in row m
declaration_code kind ws row m = None

-- what it makes of the model
abbrev pub declaration : Kind → List (List ℕ) → List ℕ → OpenModel → OpenModel
declaration Inputs ws row m = declared (with_inputs ws) m
declaration Outputs ws row m = declared (with_outputs ws) m
declaration Names ws row m = with_new_cover ws m
declaration Subckt ws row m = declared (with_instance ws) m
declaration Row ws row m = with_new_row row m
declaration kind ws row m = m

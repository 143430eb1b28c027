-- What each statement without a code keeps holds of every library.
use Rattle.std.proofs.Common.{◌≡◌, ℕ, Bool, true, false, cond, List, [], ◌∷◌, Option, Some, None}
use Rattle.std.proofs.Common.{Ok, Err, refl, subst}
use Rattle.std.specs.List.{list_any}
use Rattle.eqc_blif.specs.Netlist.{ModelOf}
use Rattle.eqc_blif.specs.Lines.{logical_lines}
use Rattle.eqc_blif.specs.Words.{arguments, without_blanks}
use Rattle.eqc_blif.specs.Kind.{kind_of_line}
use Rattle.eqc_blif.specs.Reading.{
  After,
  OpenModel,
  Outcome,
  outcome,
  outcome_of_lines,
  begun,
  models_of,
  models,
  opened,
  is_bad_byte,
  statement_code,
  then_statement,
  line_code,
  then_line,
  after,
  first_fault,
  start,
  outcome_by,
  is_too_long,
  or_behind,
}
use Rattle.eqc_blif.specs.declared.reader.kind.Kind.{Kind}

-- a fact on all models so far that stays at each statement without a code
abbrev pub IsKept : (List ModelOf → Type 0) → Type 0
IsKept P =
    (kind : Kind) (ws : List (List ℕ)) (row : List ℕ) (closed : List ModelOf) (o : Option OpenModel)
    → statement_code (record { closed = closed; open_model = o }) kind ws row ≡ None
    → P (models_of closed o)
    → P (models (then_statement kind ws row (record { closed = closed; open_model = o })))

-- what has no code does not meet its condition
pub unmet : (b : Bool) (code : ℕ) → cond b (Some code) None ≡ None → b ≡ false
unmet true code none = cc
unmet false code none = refl

opened_has : (P : List ModelOf → Type 0) (b : Bool) (st : After) → P ((begun []).model ∷ [])
    → P (models st) → P (models (cond b (record { closed = []; open_model = Some (begun []) }) st))
opened_has P true st first has = first
opened_has P false st first has = has

no_bad_byte : (b : Bool) (code : Option ℕ) → cond b (Some 1) code ≡ None → code ≡ None
no_bad_byte true code none = cc
no_bad_byte false code none = none

line_keeps : (P : List ModelOf → Type 0) → IsKept P → P ((begun []).model ∷ [])
    → (line : List ℕ) (st : After) → line_code st line ≡ None → P (models st)
    → P (models (then_line line st))
line_keeps P kept first line st none has =
    let kind = kind_of_line line in
    let before = opened kind st in
    kept kind (arguments line) (without_blanks line) before.closed before.open_model
    (no_bad_byte (list_any is_bad_byte line) _ none) (opened_has P _ st first has)

no_fault : (n : ℕ) (code : Option ℕ) (behind : Option (ℕ × ℕ)) → or_behind n code behind ≡ None
    → (code ≡ None) × (behind ≡ None)
no_fault n None behind none = (refl, none)
no_fault n (Some code) behind none = cc

lines_keep : (P : List ModelOf → Type 0) → IsKept P → P ((begun []).model ∷ [])
    → (lines : List (ℕ × List ℕ)) (st : After) → first_fault st lines ≡ None → P (models st)
    → P (models (after st lines))
lines_keep P kept first [] st none has = has
lines_keep P kept first (line ∷ lines) st none has =
    let parts = no_fault line.0 (line_code st line.1) (first_fault (then_line line.1 st) lines) none
    in
    lines_keep P kept first lines (then_line line.1 st) parts.1 (line_keeps P kept first line.1 st
    parts.0 has)

-- a library is what stands after all lines, none of which has a code
read_without_fault : (fault : Option (ℕ × ℕ)) (ms library : List ModelOf) → outcome_by fault ms
    ≡ Ok library → (fault ≡ None) × (ms ≡ library)
read_without_fault (Some fault) ms library is = cc
read_without_fault None [] library is = cc
read_without_fault None (m ∷ ms) library is = (refl, cc)

short_enough : (b : Bool) (given : Outcome) (library : List ModelOf) → cond b (Err (0, 2)) given
    ≡ Ok library → given ≡ Ok library
short_enough true given library is = cc
short_enough false given library is = is

-- what holds of no models, and of one without a name and lines, and is kept, holds of each library
pub library_has : (P : List ModelOf → Type 0) → IsKept P → P [] → P ((begun []).model ∷ [])
    → (limit : ℕ) (text : List ℕ) (library : List ModelOf) → outcome limit text ≡ Ok library
    → P library
library_has P kept none first limit text library is =
    let lines = logical_lines text in
    let parts = read_without_fault (first_fault start lines) (models (after start lines)) library
    (short_enough (is_too_long limit text) (outcome_of_lines lines) library is) in
    subst P parts.1 (lines_keep P kept first lines start parts.0 none)

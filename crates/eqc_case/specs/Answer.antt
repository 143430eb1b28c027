-- The answer of a run: the refusal of the first check that fails, else the report on the two
-- netlists. The checks are, in this
-- order: the options, the reading of the first text and the choice of its model, those of the
-- second, the hierarchies, the pair
-- with the names of chosen outputs, the order text, the reading of the assumption and its
-- hierarchy, and what is asked of it. The
-- order of variables plays no part, and of the options only how many bytes and inputs are allowed
-- and whether each difference is wanted.
use Rattle.std.specs.Prelude.{ℕ, not, nat_lt, List, length, ◌==◌, Option, Some, None, Result, Ok}
use Rattle.std.specs.Prelude.{Err, if◌then◌else◌}
use Rattle.eqc_blif.specs.Netlist.{ModelOf}
use Rattle.eqc_blif.specs.Reading.{Outcome, outcome}
use Rattle.eqc_hierarchy.specs.Hierarchy.{model, model_number}
use Rattle.eqc_hierarchy.specs.Signals.{output_value}
use Rattle.eqc_hierarchy.specs.Codes.{flat_code}
use Rattle.eqc_report.specs.declared.options.Options.{Options}
use Rattle.eqc_pair.specs.declared.refused.Side.{Side}
use Rattle.eqc_pair.specs.declared.refused.Side.TheVariants as side
use Rattle.eqc_report.specs.Options.{options_code}
use Rattle.eqc_pair.specs.Matched.{has_all, same_names, chosen_outputs, order_code}
use Rattle.eqc_compare.specs.Verdict.{NetlistOf}
use Rattle.eqc_report.specs.Report.{ReportOf, equivalent, differs, vacuous, refused, stopped}
use Rattle.eqc_report.specs.Report.{comparison}
use Rattle.eqc_tree.specs.Stopping.{code_of}
use Rattle.eqc_tree.specs.declared.stopping.Stop.{Stop}
use Rattle.eqc_tree.specs.declared.stopping.Stop.TheVariants.{NodeLimit, Memory, References}
use Rattle.eqc_tree.specs.declared.stopping.Stop.TheVariants.{Threads}

-- the names by which the first and the second model are chosen; without one, the place decides
pub record NamesOf : Type 0 where
  pub first : Option (List ℕ)
  pub second : Option (List ℕ)

-- no names
abbrev pub no_names : NamesOf
no_names = record { first = None; second = None }

-- the texts of a run, with the names: one text, whose first two models are compared where no name
-- is given, or two
-- texts, whose first models are
pub data TextsOf : Type 0 where
  one_text : NamesOf → List ℕ → TextsOf
  two_texts : NamesOf → List ℕ → List ℕ → TextsOf

-- what a run is given: the texts with the names of the models, the order text and the assumption's
-- text, where there are such,
-- the names of the outputs that are compared, which are all where there is no name, and the options
pub record GivenOf : Type 0 where
  pub texts : TextsOf
  pub order : Option (List ℕ)
  pub assume : Option (List ℕ)
  pub outputs : List (List ℕ)
  pub options : Options

-- a main model: a library, and the number of one of its models
abbrev pub MainOf : Type 0
MainOf = List ModelOf × ℕ

-- the number of the model of this name, else of the one at this place; as large as there are
-- models, or larger, where
-- there is no such model
abbrev pub chosen_number : List ModelOf → Option (List ℕ) → ℕ → ℕ
chosen_number models None place = place
chosen_number models (Some name) place = model_number models name

-- that model, or code 13 without a line where there is none
abbrev pub chosen : List ModelOf → Option (List ℕ) → ℕ → Result MainOf (ℕ × ℕ)
chosen models name place = if nat_lt (chosen_number models name place) (length models) then Ok
    (models, chosen_number models name place) else Err (0, 13)

-- the model that is chosen of a text, or the fault of its reading
abbrev pub main_of : Outcome → Option (List ℕ) → ℕ → Result MainOf (ℕ × ℕ)
main_of (Err fault) name place = Err fault
main_of (Ok models) name place = chosen models name place

-- the two models that are compared, of texts that may have so many bytes each
abbrev pub first_found : ℕ → TextsOf → Result MainOf (ℕ × ℕ)
first_found limit (one_text names text) = main_of (outcome limit text) names.first 0
first_found limit (two_texts names first second) = main_of (outcome limit first) names.first 0

abbrev pub second_found : ℕ → TextsOf → Result MainOf (ℕ × ℕ)
second_found limit (one_text names text) = main_of (outcome limit text) names.second 1
second_found limit (two_texts names first second) = main_of (outcome limit second) names.second 0

abbrev pub inputs_of : MainOf → List (List ℕ)
inputs_of m = (model m.0 m.1).inputs

abbrev pub outputs_of : MainOf → List (List ℕ)
outputs_of m = (model m.0 m.1).outputs

-- a main model as its user sees it: its outputs' values follow the hierarchy
abbrev pub netlist_of_model : MainOf → NetlistOf
netlist_of_model m = record {
  inputs = inputs_of m;
  outputs = outputs_of m;
  value =
      λ name a. output_value m.0 m.1 a name;
}

-- the report on the chosen outputs of two netlists under an assumption, if there is one
abbrev pub compared : GivenOf → NetlistOf → NetlistOf → Option NetlistOf → ReportOf
compared given f g h = comparison given.options.every f g h (chosen_outputs given.outputs f.outputs)

-- the assumption: the first model of its text, which may have so many bytes
abbrev pub assumption_found : ℕ → List ℕ → Result MainOf (ℕ × ℕ)
assumption_found limit text = main_of (outcome limit text) None 0

-- the refusal of a hierarchy by its code, where it has one, or of an assumption
abbrev pub or_code : Side → Option ℕ → ReportOf → ReportOf
or_code side None rest = rest
or_code side (Some code) rest = refused side 0 code

-- the code of an assumption over these inputs: 61 where it has an input that is none of them, 62
-- where it hasn't exactly one
-- output
abbrev pub assumption_code : List (List ℕ) → MainOf → Option ℕ
assumption_code inputs h =
    if not (has_all inputs (inputs_of h)) then Some 61
    else if not (length (outputs_of h) == 1) then Some 62
    else None

abbrev pub assumption_answer : GivenOf → NetlistOf → NetlistOf → Result MainOf (ℕ × ℕ) → ReportOf
assumption_answer given f g (Err fault) = refused side.Assume fault.0 fault.1
assumption_answer given f g (Ok h) = or_code side.Assume (flat_code h.0 h.1 given.options.inputs)
    (or_code side.Assume (assumption_code f.inputs h)
    (compared given f g (Some (netlist_of_model h))))

-- the refusal of an assumption, if there is one, else the report on two netlists
abbrev pub assumed_answer : GivenOf → NetlistOf → NetlistOf → Option (List ℕ) → ReportOf
assumed_answer given f g None = compared given f g None
assumed_answer given f g (Some text) =
    assumption_answer given f g (assumption_found given.options.bytes text)

abbrev pub code_of_order : List (List ℕ) → Option (List ℕ) → Option ℕ
code_of_order inputs None = None
code_of_order inputs (Some text) = order_code inputs text

-- the code of two models that make no pair, or of an order text, and its side
abbrev pub pair_answer : MainOf → MainOf → GivenOf → ReportOf
pair_answer m n given =
    if not (same_names (inputs_of m) (inputs_of n)) then refused side.Pair 0 41
    else if not (same_names (outputs_of m) (outputs_of n)) then refused side.Pair 0 42
    else if not (has_all (outputs_of m) given.outputs) then refused side.Pair 0 43
    else or_code side.Order (code_of_order (inputs_of m) given.order)
    (assumed_answer given (netlist_of_model m) (netlist_of_model n) given.assume)

abbrev pub models_answer : MainOf → MainOf → GivenOf → ReportOf
models_answer m n given = or_code side.First (flat_code m.0 m.1 given.options.inputs)
    (or_code side.Second (flat_code n.0 n.1 given.options.inputs) (pair_answer m n given))

abbrev pub found_answer : Result MainOf (ℕ × ℕ) → Result MainOf (ℕ × ℕ) → GivenOf → ReportOf
found_answer (Err fault) second given = refused side.First fault.0 fault.1
found_answer (Ok m) (Err fault) given = refused side.Second fault.0 fault.1
found_answer (Ok m) (Ok n) given = models_answer m n given

-- the answer of a run whose options are in their ranges
abbrev pub texts_answer : GivenOf → ReportOf
texts_answer given = found_answer (first_found given.options.bytes given.texts)
    (second_found given.options.bytes given.texts) given

abbrev pub options_answer : Option ℕ → ReportOf → ReportOf
options_answer None rest = rest
options_answer (Some code) rest = refused side.Options 0 code

-- the answer of what a run is given
abbrev pub answer : GivenOf → ReportOf
answer given = options_answer (options_code given.options) (texts_answer given)

-- whether a report comes behind all checks: it is no refusal and no stop
abbrev pub IsAccepting : ReportOf → Type 0
IsAccepting equivalent = Unit {0}
IsAccepting (differs differences) = Unit {0}
IsAccepting vacuous = Unit {0}
IsAccepting (refused side line code) = ⊥
IsAccepting (stopped code) = ⊥

-- whether a report says how two netlists compare
abbrev pub IsComparison : ReportOf → Type 0
IsComparison equivalent = Unit {0}
IsComparison (differs differences) = Unit {0}
IsComparison vacuous = ⊥
IsComparison (refused side line code) = ⊥
IsComparison (stopped code) = ⊥

-- what may stop a run that has this to report: want of memory, and, where all checks pass, a limit
-- of the
-- diagrams or a thread that could not be started
abbrev pub MayStop : ReportOf → Stop → Type 0
MayStop wanted NodeLimit = IsAccepting wanted
MayStop wanted Memory = Unit {0}
MayStop wanted References = IsAccepting wanted
MayStop wanted Threads = IsAccepting wanted

-- a report is the wanted one, or says why the run was stopped
pub data Answers (wanted : ReportOf) : ReportOf → Type 0 where
  as_wanted : Answers wanted wanted
  was_stopped : (stop : Stop) → MayStop wanted stop → Answers wanted (stopped (code_of stop))

-- texts that were read
abbrev pub read_texts : NamesOf → List ℕ → Option (List ℕ) → TextsOf
read_texts names first None = one_text names first
read_texts names first (Some second) = two_texts names first second

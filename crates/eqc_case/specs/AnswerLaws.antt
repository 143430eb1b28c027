-- What a report promises, without the definition of the answer: the two main models and the
-- assumption, the checks in their
-- order, and the values of outputs where each input has the value that is assigned to its name.
use Rattle.std.specs.Prelude.{◌≡◌, ◌≢◌, ◌↔◌, ℕ, ◌==◌, true, ◌^◌, ◌≤◌, ◌<◌, Bool, false, not, List}
use Rattle.std.specs.Prelude.{[], ◌∷◌, ◌++◌, length, map, nat_lt, slice_index_or, Option, Some}
use Rattle.std.specs.Prelude.{None, IfSome, Result, Ok, Err, if◌then◌else◌}
use Rattle.std.specs.List.{All}
use Rattle.eqc_netlist.specs.Names.{is_named, has_twice}
use Rattle.eqc_hierarchy.specs.Signals.{output_value}
use Rattle.eqc_hierarchy.specs.Codes.{flat_code}
use Rattle.eqc_report.specs.declared.options.Options.{Options}
use Rattle.eqc_pair.specs.declared.refused.Refused.{Refused}
use Rattle.eqc_pair.specs.declared.refused.Side.{Side}
use Rattle.eqc_pair.specs.declared.refused.Side.TheVariants as side
use Rattle.eqc_report.specs.Options.{is_between, is_cell_count}
use Rattle.eqc_pair.specs.Matched.{has_all, same_names, chosen_outputs, order_words}
use Rattle.eqc_compare.specs.VerdictLaws.{IsBelow}
use Rattle.eqc_report.specs.Report.{DifferenceOf, ReportOf, equivalent, differs, vacuous, refused}
use Rattle.eqc_report.specs.Report.{stopped}
use Rattle.eqc_blif.specs.Netlist.{ModelOf}
use Rattle.eqc_blif.specs.Reading.{outcome}
use Rattle.eqc_hierarchy.specs.Hierarchy.{model}
use Rattle.eqc_case.specs.Answer.{TextsOf, GivenOf, main_of, first_found, second_found, MainOf}
use Rattle.eqc_case.specs.Answer.{inputs_of, outputs_of, assumption_found, answer, IsAccepting}
use Rattle.eqc_case.specs.Answer.{Answers}
use Rattle.eqc_case.specs.Running.{known_given, IsReportFor}
use Rattle.eqc_case.specs.declared.given.Given.{Given}

-- ---- the main models

-- the main models: those that are chosen, of texts that may have so many bytes each. Where a text
-- has a fault or no such model, this
-- stands for a model without inputs and outputs: a check that comes before all that look at it
-- refuses
abbrev pub main_or_none : Result MainOf (ℕ × ℕ) → MainOf
main_or_none (Ok m) = m
main_or_none (Err fault) = ([], 0)

abbrev pub first_main : ℕ → TextsOf → MainOf
first_main limit texts = main_or_none (first_found limit texts)

abbrev pub second_main : ℕ → TextsOf → MainOf
second_main limit texts = main_or_none (second_found limit texts)

-- the assumption: the first model of its text
abbrev pub assumption_main : ℕ → List ℕ → MainOf
assumption_main limit text = main_or_none (assumption_found limit text)

-- a model of a text is the one of a name or, without a name, the one at a place
abbrev pub IsChoice : List ModelOf → Option (List ℕ) → ℕ → MainOf → Type 0
IsChoice models (Some name) place m = (m.0 ≡ models) × (m.1 < length models)
    × ((model models m.1).name ≡ name)
IsChoice models None place m = (m.0 ≡ models) × (m.1 < length models) × (m.1 ≡ place)

-- ---- what is accepted

-- 1 to 64 workers, 1 to 1,048,574 nodes, a power of two from 1 to 1,048,576 as the number of cells,
-- at most 16 forks, at most
-- 65,535 inputs, at most 2,147,483,647 bytes
pub record AreInRange (options : Options) : Type 0 where
  pub some_workers : 1 ≤ options.workers
  pub few_workers : options.workers ≤ 64
  pub some_nodes : 1 ≤ options.nodes
  pub few_nodes : options.nodes ≤ 1048574
  pub power : (k : ℕ) × (k ≤ 20) × (options.cells ≡ 2 ^ k)
  pub few_forks : options.forks ≤ 16
  pub few_inputs : options.inputs ≤ 65535
  pub few_bytes : options.bytes ≤ 2147483647

-- a text has no fault, which it has where it is longer than the limit, and the model that is chosen
-- of it is there
abbrev pub IsFound : Result MainOf (ℕ × ℕ) → Type 0
IsFound found = (m : MainOf) × (found ≡ Ok m)

-- so it is for both texts, or for both models of one
abbrev pub AreReadable : ℕ → TextsOf → Type 0
AreReadable limit texts = IsFound (first_found limit texts) × IsFound (second_found limit texts)

-- a name is in both lists or in neither
abbrev pub HaveSameNames : List (List ℕ) → List (List ℕ) → Type 0
HaveSameNames xs ys = (name : List ℕ) → is_named xs name ≡ is_named ys name

-- an order text is short enough, and its words are these inputs, each once
pub record IsOrderOf (inputs : List (List ℕ)) (text : List ℕ) : Type 0 where
  pub short : length text ≤ 16777216
  pub words : HaveSameNames (order_words text) inputs
  pub once : has_twice (order_words text) ≡ false

-- an assumption over these inputs: a netlist without a fault, with as many bytes and inputs as the
-- options allow at most, whose
-- inputs are among them, and with one output
pub record IsAssumptionOver (inputs : List (List ℕ)) (options : Options) (text : List ℕ) : Type 0
  where
    pub readable : IsFound (assumption_found options.bytes text)
    pub hierarchy : flat_code (assumption_main options.bytes text).0 (assumption_main options.bytes
        text).1 options.inputs ≡ None
    pub known : All (λ name. is_named inputs name ≡ true)
        (inputs_of (assumption_main options.bytes text))
    pub one_output : length (outputs_of (assumption_main options.bytes text)) ≡ 1

-- two netlists are accepted, and the assumption, if there is one: options, texts, which have as
-- many bytes as the
-- options allow at most, hierarchies, which have as many inputs, names and the order text are as
-- they have to be
pub record IsAccepted (given : GivenOf) : Type 0 where
  pub range : AreInRange given.options
  pub readable : AreReadable given.options.bytes given.texts
  pub first_hierarchy : flat_code (first_main given.options.bytes given.texts).0
      (first_main given.options.bytes given.texts).1 given.options.inputs ≡ None
  pub second_hierarchy : flat_code (second_main given.options.bytes given.texts).0
      (second_main given.options.bytes given.texts).1 given.options.inputs ≡ None
  pub inputs : HaveSameNames (inputs_of (first_main given.options.bytes given.texts))
      (inputs_of (second_main given.options.bytes given.texts))
  pub outputs : HaveSameNames (outputs_of (first_main given.options.bytes given.texts))
      (outputs_of (second_main given.options.bytes given.texts))
  pub chosen : All (λ name. is_named (outputs_of (first_main given.options.bytes given.texts)) name
      ≡ true) given.outputs
  pub ordered : IfSome given.order
      (IsOrderOf (inputs_of (first_main given.options.bytes given.texts)))
  pub assumed : IfSome given.assume
      (IsAssumptionOver (inputs_of (first_main given.options.bytes given.texts)) given.options)

-- ---- values

-- the value of an output where each input has the value that is assigned to its name
abbrev pub value_under : MainOf → (List ℕ → Bool) → List ℕ → Bool
value_under main assigned output =
    output_value main.0 main.1 (λ i. assigned (slice_index_or (inputs_of main) i [])) output

-- an output has one value in both main models under an assignment of values to names
abbrev pub IsEqualUnder : GivenOf → (List ℕ → Bool) → List ℕ → Type 0
IsEqualUnder given assigned output =
    value_under (first_main given.options.bytes given.texts) assigned output
    ≡ value_under (second_main given.options.bytes given.texts) assigned output

-- an assignment is allowed: the output of the assumption, if there is one, is 1 under it
abbrev pub IsAllowedBy : ℕ → Option (List ℕ) → (List ℕ → Bool) → Type 0
IsAllowedBy limit None assigned = Unit {0}
IsAllowedBy limit (Some text) assigned = value_under (assumption_main limit text) assigned
    (slice_index_or (outputs_of (assumption_main limit text)) 0 []) ≡ true

abbrev pub IsAllowed : GivenOf → (List ℕ → Bool) → Type 0
IsAllowed given assigned = IsAllowedBy given.options.bytes given.assume assigned

-- no assignment is
abbrev pub AllowsNone : GivenOf → Type 0
AllowsNone given = (assigned : List ℕ → Bool) → IsAllowed given assigned → ⊥

-- some are
abbrev pub AllowsSome : GivenOf → Type 0
AllowsSome given = (assigned : List ℕ → Bool) × IsAllowed given assigned

-- an output is equal under every allowed assignment
abbrev pub IsAlwaysEqual : GivenOf → List ℕ → Type 0
IsAlwaysEqual given output = (assigned : List ℕ → Bool) → IsAllowed given assigned
    → IsEqualUnder given assigned output

-- the outputs that are compared: those of the names that are given, or all
abbrev pub compared_outputs : GivenOf → List (List ℕ)
compared_outputs given =
    chosen_outputs given.outputs (outputs_of (first_main given.options.bytes given.texts))

-- some assignment is allowed, and all of these are equal under every one that is
pub record AreAlwaysEqual (given : GivenOf) : Type 0 where
  pub some : AllowsSome given
  pub each : All (IsAlwaysEqual given) (compared_outputs given)

-- one assignment is below another: at the first of these inputs where they differ it is 0
abbrev pub IsSmaller : List (List ℕ) → (List ℕ → Bool) → (List ℕ → Bool) → Type 0
IsSmaller inputs assigned other = IsBelow (map assigned inputs) (map other inputs)

-- an output differs, shown by the least allowed assignment under which it does: the inputs in the
-- order of the first main
-- model with their values, and the output's two values under them
pub record IsShown (given : GivenOf) (output : List ℕ) (d : DifferenceOf) : Type 0 where
  pub named : d.output ≡ output
  pub assigned : List ℕ → Bool
  pub allowed : IsAllowed given assigned
  pub inputs : map (λ name. (name, assigned name))
      (inputs_of (first_main given.options.bytes given.texts)) ≡ d.inputs
  pub first_value : value_under (first_main given.options.bytes given.texts) assigned output
      ≡ d.first
  pub second_value : value_under (second_main given.options.bytes given.texts) assigned output
      ≡ d.second
  pub different : d.first ≢ d.second
  pub least : (smaller : List ℕ → Bool)
      → IsSmaller (inputs_of (first_main given.options.bytes given.texts)) smaller assigned
      → IsAllowed given smaller → IsEqualUnder given smaller output

-- the first of the compared outputs that differs is shown, alone
pub record IsFirstToDiffer (given : GivenOf) (differences : List DifferenceOf) : Type 0 where
  pub difference : DifferenceOf
  pub alone : differences ≡ difference ∷ []
  pub position : ℕ
  pub within : position < length (compared_outputs given)
  pub before : (k : ℕ) → k < position → IsAlwaysEqual given (slice_index_or (compared_outputs given)
      k [])
  pub shown : IsShown given (slice_index_or (compared_outputs given) position []) difference

-- each of these outputs that differs is shown, in their order, and no other
pub data AreShown (given : GivenOf) : List (List ℕ) → List DifferenceOf → Type 0 where
  none_left : AreShown given [] []
  equal : (output : List ℕ) (outputs : List (List ℕ)) (ds : List DifferenceOf)
      → IsAlwaysEqual given output → AreShown given outputs ds
      → AreShown given (output ∷ outputs) ds
  differing : (output : List ℕ) (outputs : List (List ℕ)) (d : DifferenceOf)
      (ds : List DifferenceOf) → IsShown given output d → AreShown given outputs ds
      → AreShown given (output ∷ outputs) (d ∷ ds)

-- what is told of outputs that differ, of which there is one at least: each, or the first alone
abbrev pub AreTold : Bool → GivenOf → List DifferenceOf → Type 0
AreTold true given ds = (ds ≢ []) × AreShown given (compared_outputs given) ds
AreTold false given ds = IsFirstToDiffer given ds

-- ---- the checks

-- a check: the refusal that it gives, or none where it passes
abbrev pub refused_if : Bool → Side → ℕ → Option Refused
refused_if fails at number = if fails then Some (record { side = at; line = 0; code = number }) else
    None

abbrev pub refused_by_code : Side → Option ℕ → Option Refused
refused_by_code at None = None
refused_by_code at (Some number) = Some (record { side = at; line = 0; code = number })

abbrev pub refused_by_fault : Side → Result MainOf (ℕ × ℕ) → Option Refused
refused_by_fault at (Ok m) = None
refused_by_fault at (Err fault) = Some (record { side = at; line = fault.0; code = fault.1 })

-- whether there is an order text that fails a test
abbrev pub order_fails : Option (List ℕ) → (List ℕ → Bool) → Bool
order_fails None test = false
order_fails (Some text) test = test text

-- the checks of the options, of the texts and their main models, which may have so many bytes and
-- inputs, with the names of chosen
-- outputs, of the order text, and of the assumption
abbrev pub option_checks : Options → List (Option Refused)
option_checks options =
    refused_if (not (is_between 1 64 options.workers)) side.Options 81
    ∷ refused_if (not (is_between 1 1048574 options.nodes)) side.Options 82
    ∷ refused_if (not (is_cell_count options.cells)) side.Options 83
    ∷ refused_if (not (is_between 0 16 options.forks)) side.Options 84
    ∷ refused_if (not (is_between 0 65535 options.inputs)) side.Options 85
    ∷ refused_if (not (is_between 0 2147483647 options.bytes)) side.Options 86
    ∷ []

abbrev pub text_checks : TextsOf → List (List ℕ) → ℕ → ℕ → List (Option Refused)
text_checks texts outputs bytes limit =
    refused_by_fault side.First (first_found bytes texts)
    ∷ refused_by_fault side.Second (second_found bytes texts)
    ∷ refused_by_code side.First (flat_code (first_main bytes texts).0 (first_main bytes texts).1
    limit)
    ∷ refused_by_code side.Second (flat_code (second_main bytes texts).0 (second_main bytes texts).1
    limit)
    ∷ refused_if (not (same_names (inputs_of (first_main bytes texts))
    (inputs_of (second_main bytes texts)))) side.Pair 41
    ∷ refused_if (not (same_names (outputs_of (first_main bytes texts))
    (outputs_of (second_main bytes texts)))) side.Pair 42
    ∷ refused_if (not (has_all (outputs_of (first_main bytes texts)) outputs)) side.Pair 43
    ∷ []

abbrev pub order_checks : List (List ℕ) → Option (List ℕ) → List (Option Refused)
order_checks inputs order =
    refused_if (order_fails order (λ text. nat_lt 16777216 (length text))) side.Order 2
    ∷ refused_if (order_fails order (λ text. not (has_all inputs (order_words text)))) side.Order 51
    ∷ refused_if (order_fails order (λ text. has_twice (order_words text))) side.Order 52
    ∷ refused_if (order_fails order (λ text. not (has_all (order_words text) inputs))) side.Order 53
    ∷ []

abbrev pub assumption_checks : List (List ℕ) → ℕ → ℕ → Option (List ℕ) → List (Option Refused)
assumption_checks inputs bytes limit None = []
assumption_checks inputs bytes limit (Some text) =
    refused_by_fault side.Assume (assumption_found bytes text)
    ∷ refused_by_code side.Assume (flat_code (assumption_main bytes text).0 (assumption_main bytes
    text).1 limit)
    ∷ refused_if (not (has_all inputs (inputs_of (assumption_main bytes text)))) side.Assume 61
    ∷ refused_if (not (length (outputs_of (assumption_main bytes text)) == 1)) side.Assume 62
    ∷ []

-- all checks, in their order. A check looks at main models that earlier checks found, and says
-- nothing of its own
-- where one of these refuses
abbrev pub checks : GivenOf → List (Option Refused)
checks given =
    option_checks given.options ++ text_checks given.texts given.outputs given.options.bytes
    given.options.inputs
    ++ order_checks (inputs_of (first_main given.options.bytes given.texts)) given.order
    ++ assumption_checks (inputs_of (first_main given.options.bytes given.texts))
    given.options.bytes given.options.inputs given.assume

-- a check of a list refuses, and all before it pass
pub record IsFirstRefusal (all : List (Option Refused)) (refusal : Refused) : Type 0 where
  pub position : ℕ
  pub refuses : slice_index_or all position None ≡ Some refusal
  pub before : (k : ℕ) → k < position → slice_index_or all k None ≡ None

-- ---- the laws. Where one says `exactly where`, what follows does not cite the answer: together
-- they leave one report
-- for each run

-- the same with neither order text nor assumption, and with another order text and other options
abbrev pub alone : GivenOf → GivenOf
alone given = record given { order = None; assume = None }

abbrev pub with_others : GivenOf → Option (List ℕ) → Options → GivenOf
with_others given order options = record given { order = order; options = options }

-- an order text, where there is one, names the inputs, wherever two netlists are accepted without
-- it and the assumption
abbrev pub FitsInputs : GivenOf → Type 0
FitsInputs given = IsAccepted (alone given)
    → IfSome given.order (IsOrderOf (inputs_of (first_main given.options.bytes given.texts)))

-- the answer is one for all options in their ranges that allow as many bytes and inputs and want as
-- many differences, and all orders
-- that name the inputs; what is refused is refused alike whatever order there is
abbrev pub AnswerIsOne : Type 0
AnswerIsOne =
    (given : GivenOf) (order : Option (List ℕ)) (options : Options) → AreInRange given.options
    → AreInRange options → given.options.bytes ≡ options.bytes
    → given.options.inputs ≡ options.inputs → given.options.every ≡ options.every
    → FitsInputs given → FitsInputs (with_others given order options)
    → answer given ≡ answer (with_others given order options)

-- it is `vacuous` exactly where two netlists and an assumption are accepted and no assignment is
-- allowed
abbrev pub AnswerIsVacuous : Type 0
AnswerIsVacuous = (given : GivenOf) → (answer given ≡ vacuous) ↔ (IsAccepted given
    × AllowsNone given)

-- it is `equivalent` exactly where two netlists are accepted, some assignment is allowed, and each
-- output that is compared is
-- equal under every allowed assignment
abbrev pub AnswerIsEquivalent : Type 0
AnswerIsEquivalent = (given : GivenOf) → (answer given ≡ equivalent) ↔ (IsAccepted given
    × AreAlwaysEqual given)

-- it says that outputs differ exactly where two netlists are accepted and these are the outputs
-- that differ, each with the least
-- allowed assignment, or the first of them alone, where not each is wanted
abbrev pub AnswerDiffers : Type 0
AnswerDiffers =
    (given : GivenOf) (differences : List DifferenceOf)
    → (answer given ≡ differs differences) ↔ (IsAccepted given
    × AreTold given.options.every given differences)

-- it is a refusal exactly where that is the first among the checks
abbrev pub AnswerIsFirstRefusal : Type 0
AnswerIsFirstRefusal =
    (given : GivenOf) (refusal : Refused)
    → (answer given ≡ refused refusal.side refusal.line refusal.code) ↔ IsFirstRefusal
    (checks given) refusal

-- it is `vacuous` or says how two netlists compare exactly where all checks pass
abbrev pub AnswerCompares : Type 0
AnswerCompares = (given : GivenOf) → IsAccepting (answer given) ↔ ((k : ℕ)
    → slice_index_or (checks given) k None ≡ None)

-- which is exactly where two netlists are accepted
abbrev pub ChecksAccept : Type 0
ChecksAccept = (given : GivenOf) → ((k : ℕ) → slice_index_or (checks given) k None ≡ None) ↔
    IsAccepted given

-- it is no stop
abbrev pub AnswerIsNoStop : Type 0
AnswerIsNoStop = (given : GivenOf) (code : ℕ) → answer given ≢ stopped code

-- the model that is chosen of a text without a fault is the one of the name or at the place, and it
-- is chosen wherever it
-- is there
abbrev pub ModelIsChosen : Type 0
ModelIsChosen =
    (limit : ℕ) (text : List ℕ) (models : List ModelOf) (name : Option (List ℕ)) (place : ℕ)
    (m : MainOf) → outcome limit text ≡ Ok models
    → (main_of (outcome limit text) name place ≡ Ok m) ↔ IsChoice models name place m

-- a report that answers a run, over readers whose bytes are known, is the answer on these, or says
-- why the run was stopped
abbrev pub IsAnswerOfRuns : {R : Type 0} → (R → Option (List ℕ)) → Type 0
IsAnswerOfRuns {R} remaining =
    (given : Given R) (known : GivenOf) (report : ReportOf) → known_given remaining given
    ≡ Some known → IsReportFor remaining given report → Answers (answer known) report

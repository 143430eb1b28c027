-- The report of a run and its bytes. Each line ends in LF.
use Rattle.std.specs.Prelude.{ℕ, Bool, true, false, List, [], ◌∷◌, ◌++◌, map, codes}
use Rattle.std.specs.List.{flat_map, zip}
use Rattle.std.specs.Fmt.{decimal}
use Rattle.std.specs.Prelude.{Option}
use Rattle.eqc_pair.specs.declared.refused.Side.{Side}
use Rattle.eqc_pair.specs.Side.{side_word}
use Rattle.eqc_compare.specs.Verdict.{NetlistOf, VerdictOf, first_value, second_value, verdict}
use Rattle.eqc_compare.specs.Verdict as found

-- an output that differs, the inputs' values that show it, and its value under them in the two
-- netlists
pub record DifferenceOf : Type 0 where
  pub output : List ℕ
  pub inputs : List (List ℕ × Bool)
  pub first : Bool
  pub second : Bool

-- equivalent; outputs that differ; vacuous, where no assignment of the inputs is allowed; a refusal
-- of a side at a line
-- with a code; or the code of what stopped the run
pub data ReportOf : Type 0 where
  equivalent : ReportOf
  differs : (differences : List DifferenceOf) → ReportOf
  vacuous : ReportOf
  refused : (side : Side) (line code : ℕ) → ReportOf
  stopped : (code : ℕ) → ReportOf

abbrev pub line : List ℕ → List ℕ
line bytes = bytes ++ 10 ∷ []

abbrev pub digit : Bool → List ℕ
digit true = 49 ∷ []
digit false = 48 ∷ []

-- `NAME=V`
abbrev pub value_line : List ℕ × Bool → List ℕ
value_line p = line (p.0 ++ 61 ∷ digit p.1)

-- the lines on an output that differs
abbrev pub block : DifferenceOf → List ℕ
block d =
    line (codes "differs at " ++ d.output) ++ flat_map value_line d.inputs
    ++ value_line (codes "first", d.first) ++ value_line (codes "second", d.second)

abbrev pub text : ReportOf → List ℕ
text equivalent = line (codes "equivalent")
text (differs differences) = flat_map block differences
text vacuous = line (codes "vacuous")
text (refused side number code) = line (codes "refused " ++ side_word side ++ 32 ∷ decimal number
    ++ 32 ∷ decimal code)
text (stopped code) = line (codes "stopped " ++ decimal code)

-- an output with an assignment of the first netlist's inputs
abbrev pub shown : NetlistOf → NetlistOf → List ℕ × List Bool → DifferenceOf
shown f g d = record {
  output = d.0;
  inputs = zip f.inputs d.1;
  first = first_value f d.0 d.1;
  second = second_value f g d.0 d.1;
}

-- the report on outputs that differ: none do where the list is empty
abbrev pub differences_report : List DifferenceOf → ReportOf
differences_report [] = equivalent
differences_report (d ∷ ds) = differs (d ∷ ds)

abbrev pub verdict_report : NetlistOf → NetlistOf → VerdictOf → ReportOf
verdict_report f g found.vacuous = vacuous
verdict_report f g (found.compared ds) = differences_report (map (shown f g) ds)

-- the report on these outputs of two netlists whose inputs and outputs are the same sets, under an
-- assumption, if there is
-- one: each that differs, or the first alone
abbrev pub comparison : Bool → NetlistOf → NetlistOf → Option NetlistOf → List (List ℕ) → ReportOf
comparison every f g h outputs = verdict_report f g (verdict every f g h outputs)

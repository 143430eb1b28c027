-- The report on a pair, and what it shows of an output that was found to differ.
use Rattle.std.specs.Prelude.{◌≡◌, ◌<◌, Bool, true, [], length, slice_index_or}
use Rattle.eqc_pair.specs.PairOf.{PairOf}
use Rattle.eqc_compare.specs.Verdict.{has_two_values}
use Rattle.eqc_compare.specs.declared.outcome.Difference.{Difference}
use Rattle.eqc_compare.specs.Comparing.{netlist_of, verdict_of}
use Rattle.eqc_report.specs.Report.{DifferenceOf, ReportOf, shown, verdict_report}

-- the report on a pair
abbrev pub pair_report : Bool → PairOf → ReportOf
pair_report every p = verdict_report (netlist_of p.first) (netlist_of p.second) (verdict_of p every)

-- an output that was found is there, with a value for each input of the first netlist, under which
-- its values differ
pub record IsFoundOf (p : PairOf) (d : Difference) : Type 0 where
  pub within : d.output < length p.first.outputs
  pub size : length d.values.items ≡ length p.first.inputs
  pub differs : has_two_values (netlist_of p.first) (netlist_of p.second)
      (slice_index_or p.first.outputs d.output []) d.values.items ≡ true

-- it is shown with its name and values
abbrev pub shown_of : PairOf → Difference → DifferenceOf
shown_of p d = shown (netlist_of p.first) (netlist_of p.second) (
  slice_index_or p.first.outputs
      d.output [],
  d.values.items,
)

-- Refusals as reports, and the answer of two flat netlists.
use Rattle.std.specs.Prelude.{◌≡◌, ◌≢◌, Option, Some, None, Result, Ok, Err}
use Rattle.eqc_netlist.specs.Graph.{FlatOf}
use Rattle.eqc_netlist.specs.declared.refusal.Refusal.{Refusal}
use Rattle.eqc_report.specs.declared.report.Report.{Report}
use Rattle.eqc_report.specs.declared.report.Report.TheVariants as report
use Rattle.eqc_pair.specs.declared.refused.Refused.{Refused}
use Rattle.eqc_pair.specs.declared.refused.Side.{Side}
use Rattle.eqc_report.specs.Report.{ReportOf, refused}
use Rattle.eqc_case.specs.Answer.{GivenOf, compared, assumed_answer}
use Rattle.eqc_pair.specs.PairOf.{pair_refusal, assumption_refusal}
use Rattle.eqc_compare.specs.Comparing.{netlist_of}
use Rattle.eqc_tree.specs.declared.stopping.Stop.{Stop}
use Rattle.eqc_tree.specs.declared.stopping.Stop.TheVariants.{Memory}

-- a refusal is a report, save want of memory
abbrev pub IsRefused : Side → Refusal → Result Report Stop → Type 0
IsRefused side refusal (Ok r) = (refusal.code ≢ 72)
    × (r ≡ report.Refused (record { side = side; line = refusal.line; code = refusal.code }))
IsRefused side refusal (Err stop) = (refusal.code ≡ 72) × (stop ≡ Memory)

abbrev pub refusal_report : Option Refused → ReportOf → ReportOf
refusal_report None rest = rest
refusal_report (Some r) rest = refused r.side r.line r.code

-- the refusal of two flat netlists as a pair, or of the assumption, else the report on them
abbrev pub flat_answer : FlatOf → FlatOf → GivenOf → ReportOf
flat_answer f g given = refusal_report (pair_refusal f g given.outputs given.order)
    (assumed_answer given (netlist_of f) (netlist_of g) given.assume)

-- the refusal of a flat netlist as an assumption for two flat netlists, else the report on these
-- under it
abbrev pub flat_assumed : GivenOf → FlatOf → FlatOf → FlatOf → ReportOf
flat_assumed given f g h = refusal_report (assumption_refusal f.inputs h)
    (compared given (netlist_of f) (netlist_of g) (Some (netlist_of h)))

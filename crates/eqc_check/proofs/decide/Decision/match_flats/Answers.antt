use Rattle.std.proofs.Common.{◌≡◌, ◌∙◌, sym, ap, ap₂, None, IfOk}
use Rattle.eqc_netlist.specs.Graph.{FlatOf}
use Rattle.eqc_pair.specs.PairOf.{pair_refusal}
use Rattle.eqc_report.specs.PairReport.{pair_report}
use Rattle.eqc_report.specs.ReportView.{report_of}
use Rattle.eqc_compare.specs.Comparing.{netlist_of}
use Rattle.eqc_case.specs.declared.given.Case.{Case}
use Rattle.eqc_case.specs.Answer.{compared, assumption_found, assumption_answer, assumed_answer}
use Rattle.eqc_case.specs.Sources.{items_of, given_of}
use Rattle.eqc_case.proofs.ReportsLaws.{reported, stop_alike, pair_compared, compared_stop}
use Rattle.eqc_case.proofs.ReportsLaws.{behind_pair, refused_stop}
use Rattle.eqc_case.specs.Left.{was_compared}
use Rattle.eqc_case.proofs.LeftLaws.{told_weaker, refused_tells, unassumed, assumed}
use Rattle.eqc_check.proofs.decide.Decision.match_flats.Goals as goal

pub returns-in-None-clause-report : goal.returns-in-None-clause-report
returns-in-None-clause-report g c =
    let case = c.args.self.now.case.now in
    let given = given_of case in
    let f = c.args.first.now in
    let k = c.args.second.now in
    let outputs = ap (λ (x : Case). x.outputs) c.case.view_is in
    let order = c.bytes_of-order.ensures ∙ ap (λ (x : Case). items_of x.order) c.case.view_is in
    let asks = ap (λ (x : Case). x.assume) c.case.view_is in
    let taken : pair_refusal f k given.outputs given.order ≡ None =
    sym (ap₂ (pair_refusal f k) outputs order) ∙ c.in-Ok.ensures.taken in
    let unasked : assumed_answer given (netlist_of f) (netlist_of k) given.assume
    ≡ compared given (netlist_of f) (netlist_of k) None =
    ap (λ a. assumed_answer given (netlist_of f) (netlist_of k) (items_of a)) (sym asks
    ∙ c.in-None.is) in
    let compares : IfOk c.compare.result (λ report. report_of report
    ≡ pair_report given.options.every c.in-Ok.pair) = c.compare.ensures.report in
    reported c.compare.result _ _ compares
    (pair_compared given c.in-Ok.pair f k None c.in-Ok.ensures.netlists.0 c.in-Ok.ensures.netlists.1
    c.in-Ok.ensures.chosen.0 (c.in-Ok.ensures.chosen.1 ∙ outputs)
    ∙ (sym unasked ∙ behind_pair f k given taken))

pub returns-in-None-clause-stop : goal.returns-in-None-clause-stop
returns-in-None-clause-stop g c =
    let case = c.args.self.now.case.now in
    let given = given_of case in
    let f = c.args.first.now in
    let k = c.args.second.now in
    let outputs = ap (λ (x : Case). x.outputs) c.case.view_is in
    let order = c.bytes_of-order.ensures ∙ ap (λ (x : Case). items_of x.order) c.case.view_is in
    let asks = ap (λ (x : Case). x.assume) c.case.view_is in
    let taken : pair_refusal f k given.outputs given.order ≡ None =
    sym (ap₂ (pair_refusal f k) outputs order) ∙ c.in-Ok.ensures.taken in
    let unasked : assumed_answer given (netlist_of f) (netlist_of k) given.assume
    ≡ compared given (netlist_of f) (netlist_of k) None =
    ap (λ a. assumed_answer given (netlist_of f) (netlist_of k) (items_of a)) (sym asks
    ∙ c.in-None.is) in
    stop_alike c.compare.result _ _ (compared_stop given (netlist_of f) (netlist_of k) None
    c.compare.result) (sym unasked ∙ behind_pair f k given taken)

pub returns-in-Some-clause-stop : goal.returns-in-Some-clause-stop
returns-in-Some-clause-stop g c =
    let case = c.args.self.now.case.now in
    let given = given_of case in
    let f = c.args.first.now in
    let k = c.args.second.now in
    let outputs = ap (λ (x : Case). x.outputs) c.case.view_is in
    let order = c.bytes_of-order.ensures ∙ ap (λ (x : Case). items_of x.order) c.case.view_is in
    let asks = ap (λ (x : Case). x.assume) c.case.view_is in
    let taken : pair_refusal f k given.outputs given.order ≡ None =
    sym (ap₂ (pair_refusal f k) outputs order) ∙ c.in-Ok.ensures.taken in
    let text = c.in-Some.text.items in
    let asked : assumed_answer given (netlist_of f) (netlist_of k) given.assume
    ≡ assumption_answer given (netlist_of f) (netlist_of k)
    (assumption_found given.options.bytes text) =
    ap (λ a. assumed_answer given (netlist_of f) (netlist_of k) (items_of a)) (sym asks
    ∙ c.in-Some.is) in
    stop_alike c.read_assumption.result _ _ c.read_assumption.ensures.stop
    (ap₂ (λ (x y : FlatOf). assumption_answer given (netlist_of x) (netlist_of y)
    (assumption_found given.options.bytes c.deref.result.now)) c.in-Ok.ensures.netlists.0
    c.in-Ok.ensures.netlists.1
    ∙ (ap (λ t. assumption_answer given (netlist_of f) (netlist_of k)
    (assumption_found given.options.bytes t)) c.deref.ensures.value
    ∙ (sym asked ∙ behind_pair f k given taken)))

pub returns-in-Err-clause-stop : goal.returns-in-Err-clause-stop
returns-in-Err-clause-stop g c = refused_stop c.in-Err.field-0.side (record {
  line =
      c.in-Err.field-0.line;
  code = c.in-Err.field-0.code;
}) c.refused.result _ c.refused.ensures

pub returns-in-None-clause-left : goal.returns-in-None-clause-left
returns-in-None-clause-left g c =
    let case = c.args.self.now.case.now in
    let given = given_of case in
    let outputs = ap (λ (x : Case). x.outputs) c.case.view_is in
    let asks = ap (λ (x : Case). x.assume) c.case.view_is in
    let is = c.in-Ok.ensures in
    was_compared c.in-Ok.pair
    (unassumed given c.args.first.now c.args.second.now c.in-Ok.pair (ap items_of (sym asks
    ∙ c.in-None.is)) is.netlists.0 is.netlists.1 is.chosen.0 (is.chosen.1 ∙ outputs))
    c.compare.ensures.left

pub returns-in-Some-clause-left : goal.returns-in-Some-clause-left
returns-in-Some-clause-left g c =
    let case = c.args.self.now.case.now in
    let given = given_of case in
    let outputs = ap (λ (x : Case). x.outputs) c.case.view_is in
    let asks = ap (λ (x : Case). x.assume) c.case.view_is in
    let is = c.in-Ok.ensures in
    told_weaker _ _ c.read_assumption.result _ _
    (λ p under. assumed given c.args.first.now c.args.second.now c.in-Some.text.items c.in-Ok.pair p
    (ap items_of (sym asks ∙ c.in-Some.is)) is.netlists.0 is.netlists.1 (is.chosen.1 ∙ outputs)
    (rw (sym c.deref.ensures.value) under))
    c.read_assumption.ensures.left

pub returns-in-Err-clause-left : goal.returns-in-Err-clause-left
returns-in-Err-clause-left g c = refused_tells _ c.in-Err.field-0.side (record {
  line =
      c.in-Err.field-0.line;
  code = c.in-Err.field-0.code;
}) c.refused.result _ c.refused.ensures

use Rattle.std.proofs.Common.{sym, ap}
use Rattle.eqc_pair.specs.declared.refused.Side.TheVariants as side
use Rattle.eqc_compare.specs.Comparing.{netlist_of}
use Rattle.eqc_case.specs.Answer.{assumption_found, assumption_answer}
use Rattle.eqc_case.specs.Sources.{given_of}
use Rattle.eqc_case.proofs.ReportsLaws.{reported, stop_alike, assumption_fault}
use Rattle.eqc_case.proofs.LeftLaws.{told_weaker, refused_tells}
use Rattle.eqc_check.proofs.decide.Decision.read_assumption.Goals as goal

pub returns-in-Err-clause-report : goal.returns-in-Err-clause-report
returns-in-Err-clause-report g c =
    assumption_fault (given_of c.args.self.now.case.now) (netlist_of c.args.pair.first)
    (netlist_of c.args.pair.second)
    (assumption_found c.args.self.now.case.now.options.bytes c.args.text.now) c.in-Err.refusal
    c.refused.result c.refused.ensures c.in-Err.ensures.refused

pub returns-in-Ok-clause-report : goal.returns-in-Ok-clause-report
returns-in-Ok-clause-report g c =
    reported c.flatten_assumption.result _ _ c.flatten_assumption.ensures.report
    (ap (assumption_answer (given_of c.args.self.now.case.now) (netlist_of c.args.pair.first)
    (netlist_of c.args.pair.second)) (sym c.in-Ok.ensures.chosen))

pub returns-in-Ok-clause-stop : goal.returns-in-Ok-clause-stop
returns-in-Ok-clause-stop g c =
    stop_alike c.flatten_assumption.result _ _ c.flatten_assumption.ensures.stop
    (ap (assumption_answer (given_of c.args.self.now.case.now) (netlist_of c.args.pair.first)
    (netlist_of c.args.pair.second)) (sym c.in-Ok.ensures.chosen))

pub returns-in-Ok-clause-left : goal.returns-in-Ok-clause-left
returns-in-Ok-clause-left g c =
    told_weaker _ _ c.flatten_assumption.result _ _ (λ p is. rw c.in-Ok.ensures.chosen is)
    c.flatten_assumption.ensures.left

pub returns-in-Err-clause-left : goal.returns-in-Err-clause-left
returns-in-Err-clause-left g c = refused_tells _ side.Assume c.in-Err.refusal c.refused.result _
    c.refused.ensures

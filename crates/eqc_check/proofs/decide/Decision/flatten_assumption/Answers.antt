use Rattle.std.proofs.Common.{refl, Ok}
use Rattle.eqc_pair.specs.declared.refused.Side.TheVariants as side
use Rattle.eqc_compare.specs.Comparing.{netlist_of}
use Rattle.eqc_case.specs.Answer.{MainOf}
use Rattle.eqc_case.specs.Sources.{given_of}
use Rattle.eqc_case.proofs.ReportsLaws.{reported, stop_alike, assumption_hierarchy, flat_assumption}
use Rattle.eqc_case.proofs.ReportsLaws.{refused_stop}
use Rattle.eqc_case.proofs.LeftLaws.{told_weaker, refused_tells, under_main}
use Rattle.eqc_check.proofs.decide.Decision.flatten_assumption.Goals as goal

pub returns-in-Ok-clause-report : goal.returns-in-Ok-clause-report
returns-in-Ok-clause-report g c =
    let k : MainOf = (c.args.assumption.now.library, c.args.assumption.now.model) in
    reported c.match_assumption.result _ _ c.match_assumption.ensures.report
    (flat_assumption (given_of c.args.self.now.case.now) c.args.pair.first c.args.pair.second
    c.in-Ok.assumed k (Ok k) refl (rw c.limit.ensures at c.in-Ok.ensures.accepted)
    c.recall_laws.ensures.lawful c.in-Ok.ensures.flat)

pub returns-in-Ok-clause-stop : goal.returns-in-Ok-clause-stop
returns-in-Ok-clause-stop g c =
    let k : MainOf = (c.args.assumption.now.library, c.args.assumption.now.model) in
    stop_alike c.match_assumption.result _ _ c.match_assumption.ensures.stop
    (flat_assumption (given_of c.args.self.now.case.now) c.args.pair.first c.args.pair.second
    c.in-Ok.assumed k (Ok k) refl (rw c.limit.ensures at c.in-Ok.ensures.accepted)
    c.recall_laws.ensures.lawful c.in-Ok.ensures.flat)

pub returns-in-Err-clause-report : goal.returns-in-Err-clause-report
returns-in-Err-clause-report g c =
    let k : MainOf = (c.args.assumption.now.library, c.args.assumption.now.model) in
    assumption_hierarchy (given_of c.args.self.now.case.now) (netlist_of c.args.pair.first)
    (netlist_of c.args.pair.second) (Ok k) k
    c.in-Err.field-0.code c.refused.result refl c.refused.ensures (rw c.limit.ensures at
    c.in-Err.ensures.refused)

pub returns-in-Err-clause-stop : goal.returns-in-Err-clause-stop
returns-in-Err-clause-stop g c = refused_stop side.Assume (record {
  line = 0;
  code =
      c.in-Err.field-0.code;
}) c.refused.result _ c.refused.ensures

pub returns-in-Ok-clause-left : goal.returns-in-Ok-clause-left
returns-in-Ok-clause-left g c =
    let k : MainOf = (c.args.assumption.now.library, c.args.assumption.now.model) in
    told_weaker _ _ c.match_assumption.result _ _ (λ p is. under_main (Ok k) k c.in-Ok.assumed
    c.args.pair p refl c.in-Ok.ensures.flat is) c.match_assumption.ensures.left

pub returns-in-Err-clause-left : goal.returns-in-Err-clause-left
returns-in-Err-clause-left g c = refused_tells _ side.Assume (record {
  line = 0;
  code =
      c.in-Err.field-0.code;
}) c.refused.result _ c.refused.ensures

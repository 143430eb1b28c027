use Rattle.std.proofs.lemmas.Result.{IfOk-weaker}
use Rattle.eqc_flat.specs.DriverTable.{NamesDriven}
use Rattle.eqc_flat.proofs.finding.driver_findings.driven_named.Goals as goal

pub returns : goal.returns
returns c =
    IfOk-weaker _ _ (λ name. NamesDriven c.args.driven c.args.hierarchy.now.0 c.args.hierarchy.now.1
    name)
    (λ name is. (
      c.in_ok-signal.signal,
      c.in_ok-signal.ensures.within,
      is,
      c.in_ok-signal.ensures.driven,
    )) c.name_of.ensures

use Rattle.std.proofs.Common.{◌≤◌, length, sym, subst}
use Rattle.std.specs.List.{All}
use Rattle.eqc_apply.specs.declared.applier.Applier.{Applier}
use Rattle.eqc_apply.specs.Extending.{holding_in}
use Rattle.eqc_engine.proofs.WatchedLemmas.{of_each}
use Rattle.eqc_engine.proofs.workers.check_team.Goals as goal

pub check_known-requires-clause-variables : goal.check_known-requires-clause-variables
check_known-requires-clause-variables g c κs within =
    let P = λ (a : Applier). length c.args.comparison.now.pair.now.first.inputs
    ≤ (holding_in a.names).variables in
    of_each P (λ w. w.diagrams) c.in_ok-members.members.items
    (subst (All P) (sym c.in_ok-members.ensures.each) c.in_ok-team.ensures.variables)

use Rattle.eqc_place.proofs.AllowedLaws.{IsGrowing}
use Rattle.eqc_place.proofs.allowed.literals_where_allowed.Given as goal

abbrev pub invariant-loop-step : goal.invariant-loop-step
invariant-loop-step l = IsGrowing l.steps.pair l.fn.sweep l.sweep l.table.items l.step

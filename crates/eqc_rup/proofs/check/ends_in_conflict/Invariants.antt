use Rattle.eqc_rup.specs.Checking.{LeadsTo}
use Rattle.eqc_rup.proofs.check.ends_in_conflict.Given as goal

-- where one is true of those that are taken to be false, one of the first is
abbrev pub invariant-hints : goal.invariant-hints
invariant-hints l = LeadsTo l.graph l.falsified l.fn.falsified

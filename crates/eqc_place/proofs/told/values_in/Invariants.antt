use Rattle.eqc_place.proofs.ToldLaws.{IsReading}
use Rattle.eqc_place.proofs.told.values_in.Given as goal

abbrev pub invariant-loop-c : goal.invariant-loop-c
invariant-loop-c l = IsReading l.table l.steps l.c l.values.items

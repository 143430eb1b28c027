use Rattle.eqc_place.proofs.ToldLaws.{IsIndexing}
use Rattle.eqc_place.proofs.told.tabulated.Given as goal

abbrev pub invariant-loop-c : goal.invariant-loop-c
invariant-loop-c l = IsIndexing l.columns l.c l.index

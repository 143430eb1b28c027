use Rattle.eqc_pair.specs.PairOf.{input_values}
use Rattle.eqc_build.specs.Steps.{uses_of}
use Rattle.eqc_place.proofs.PlaceLaws.{IsListing}
use Rattle.eqc_place.proofs.locating.Locator.columns.Given as goal

abbrev pub invariant-loop-c : goal.invariant-loop-c
invariant-loop-c l = IsListing l.self.pair (input_values l.self.pair l.inputs)
    (uses_of l.self l.step) l.c l.columns.items

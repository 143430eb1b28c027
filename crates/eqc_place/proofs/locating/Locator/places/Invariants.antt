use Rattle.std.specs.Prelude.{All}
use Rattle.eqc_pair.specs.PairOf.{input_values}
use Rattle.eqc_place.specs.Places.{IsPlace}
use Rattle.eqc_place.proofs.locating.Locator.places.Given as goal

abbrev pub invariant-loop-suspect : goal.invariant-loop-suspect
invariant-loop-suspect l = All (IsPlace l.self (input_values l.self.pair l.inputs)) l.each.items

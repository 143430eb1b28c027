use Rattle.std.proofs.Common.{Some}
use Rattle.std.specs.Prelude.{IfSome}
use Rattle.std.proofs.lemmas.List.Elements.{All-push}
use Rattle.eqc_pair.specs.PairOf.{input_values}
use Rattle.eqc_place.specs.Places.{IsPlace}
use Rattle.eqc_place.proofs.locating.Locator.places.Goals.{in-Some+in_ok-push, in_default}
use Rattle.eqc_place.proofs.locating.Locator.places.Goals as goal

pub loop-suspect-preserved : goal.loop-suspect-preserved
loop-suspect-preserved c = elim c.match-branch-4.branch [
  | in-Some+in_ok-push w ↦ (
      let found : IfSome (Some w.in-Some.place) (IsPlace c.args.self.now
      (input_values c.args.self.now.pair c.args.inputs.now)) =
      rw w.in-Some.is at c.in_ok-place.ensures.places in
      rw (w.each-is, w.in_ok-push.ensures.items)
      (All-push (IsPlace c.args.self.now (input_values c.args.self.now.pair c.args.inputs.now))
      c.loop-suspect.each.items w.in-Some.place c.loop-suspect.invariant found)
      )
  | in_default w ↦ rw w.each-is c.loop-suspect.invariant
]

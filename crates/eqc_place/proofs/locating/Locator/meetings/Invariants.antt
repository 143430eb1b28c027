use Rattle.std.specs.Prelude.{All}
use Rattle.eqc_place.specs.Places.{IsMeeting}
use Rattle.eqc_place.proofs.locating.Locator.meetings.Given as goal

abbrev pub invariant-loop-node : goal.invariant-loop-node
invariant-loop-node l = All (IsMeeting l.self.pair) l.meetings.items

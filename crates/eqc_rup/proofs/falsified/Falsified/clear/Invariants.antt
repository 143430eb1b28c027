use Rattle.std.proofs.Common.{vec_len}
use Rattle.eqc_rup.specs.Checking.{AreMarked}
use Rattle.eqc_rup.proofs.falsified.Falsified.clear.Given as goal

-- only what is left of the trail is marked
abbrev pub invariant-undo : goal.invariant-undo
invariant-undo l = AreMarked l.self-inside.marks.items l.self-inside.trail.items

abbrev pub decreases-undo : goal.decreases-undo
decreases-undo l = vec_len l.self-inside.trail

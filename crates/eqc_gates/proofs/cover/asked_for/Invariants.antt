use Rattle.std.proofs.Common.{take}
use Rattle.eqc_gates.specs.Literals.{AreAskedFor}
use Rattle.eqc_gates.proofs.cover.asked_for.Given as goal

abbrev pub invariant-loop-j : goal.invariant-loop-j
invariant-loop-j l = AreAskedFor l.columns (take l.j l.row) l.asked.items

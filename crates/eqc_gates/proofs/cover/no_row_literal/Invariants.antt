use Rattle.std.proofs.Common.{take}
use Rattle.eqc_gates.proofs.LiteralLaws.{AreUnmatched}
use Rattle.eqc_gates.proofs.cover.no_row_literal.Given as goal

abbrev pub invariant-loop-k : goal.invariant-loop-k
invariant-loop-k l = AreUnmatched l.fn.sweep l.sweep l.columns (take l.k l.rows) l.none.items

use Rattle.std.proofs.Common.{◌-◌, vec_len}
use Rattle.eqc_gates.proofs.LiteralLaws.{IsReduced}
use Rattle.eqc_gates.proofs.gate.all_of.Given as goal

abbrev pub invariant-pairs : goal.invariant-pairs
invariant-pairs l = IsReduced l.fn.sweep l.sweep l.fn.literals.items l.work.items l.next

abbrev pub decreases-pairs : goal.decreases-pairs
decreases-pairs l = vec_len l.work - l.next

use Rattle.std.proofs.Common.{◌≡◌}
use Rattle.eqc_witness.proofs.completion.Means.lean.Given as goal

abbrev pub invariant-loop-node : goal.invariant-loop-node
invariant-loop-node l = l.self.search ≡ l.fn.self.search

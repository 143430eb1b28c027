use Rattle.std.proofs.Common.{◌≡◌}
use Rattle.eqc_node_tests.proofs.arenas.deep.Given as goal

abbrev pub invariant-loop-var : goal.invariant-loop-var
invariant-loop-var g l = l.maker.worker.forest ≡ l.fn.maker.worker.forest

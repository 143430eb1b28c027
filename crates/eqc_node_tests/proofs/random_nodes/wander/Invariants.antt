use Rattle.std.proofs.Common.{◌≡◌}
use Rattle.eqc_node_tests.proofs.random_nodes.wander.Given as goal

abbrev pub invariant-loop : goal.invariant-loop
invariant-loop g l = l.maker.worker.forest ≡ l.initial.maker.worker.forest

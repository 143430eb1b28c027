use Rattle.std.proofs.Common.{◌≡◌}
use Rattle.eqc_node_tests.proofs.makers.Maker.give_all_back.Given as goal

abbrev pub invariant-loop : goal.invariant-loop
invariant-loop l = l.self.worker.forest ≡ l.initial.self.worker.forest

use Rattle.eqc_tree.specs.Holding.{Keeps}
use Rattle.eqc_apply.specs.Before.{IsWorker}
use Rattle.eqc_apply.specs.Extending.{holding_in}
use Rattle.eqc_plain.specs.Spending.{Spends}
use Rattle.eqc_apply.proofs.applier.Applier.look_through.Given as goal

abbrev pub invariant-loop-pause : goal.invariant-loop-pause
invariant-loop-pause g l = record {
  kept : Keeps (holding_in l.fn.self.names) (holding_in l.self.names);
  worker : IsWorker l.fn.self.names.worker l.self.names.worker;
  turns : Spends l.fn.self.names.turns l.self.names.turns;
}

use Rattle.eqc_apply.specs.Extending.{holding_in}
use Rattle.eqc_apply.proofs.Answering.{worker_stays, worker_trans, extends_stays}
use Rattle.eqc_apply.proofs.Meanings.{extends_refl}
use Rattle.eqc_apply.proofs.Helping.{keeps_refl, keeps_trans}
use Rattle.eqc_plain.proofs.Spending.{spends_refl, spends_trans}
use Rattle.eqc_apply.proofs.applier.Applier.look_through.Goals as goal

pub loop-pause-init : goal.loop-pause-init
loop-pause-init g c = let n = c.args.self.now.names in record {
  kept = keeps_refl (holding_in n);
  worker = worker_stays n n (extends_stays n n (extends_refl n));
  turns = spends_refl n.turns;
}

pub loop-pause-preserved : goal.loop-pause-preserved
loop-pause-preserved g c =
    record {
      kept = keeps_trans c.loop-pause.invariant.kept c.serve_boxes.ensures.kept;
      worker = worker_trans c.loop-pause.invariant.worker c.serve_boxes.ensures.worker;
      turns = spends_trans c.loop-pause.invariant.turns c.serve_boxes.ensures.turns;
    }

pub returns-then-serve_boxes-clause-kept : goal.returns-then-serve_boxes-clause-kept
returns-then-serve_boxes-clause-kept g c = keeps_trans c.loop-pause.invariant.kept
    c.serve_boxes.ensures.kept

pub returns-then-serve_boxes-clause-worker : goal.returns-then-serve_boxes-clause-worker
returns-then-serve_boxes-clause-worker g c = worker_trans c.loop-pause.invariant.worker
    c.serve_boxes.ensures.worker

pub returns-then-serve_boxes-clause-turns : goal.returns-then-serve_boxes-clause-turns
returns-then-serve_boxes-clause-turns g c = spends_trans c.loop-pause.invariant.turns
    c.serve_boxes.ensures.turns

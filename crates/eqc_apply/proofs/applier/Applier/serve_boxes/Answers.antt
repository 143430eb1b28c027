use Rattle.eqc_apply.specs.Extending.{holding_in}
use Rattle.eqc_apply.proofs.Answering.{worker_stays, worker_trans, extends_stays}
use Rattle.eqc_apply.proofs.Meanings.{extends_refl}
use Rattle.eqc_apply.proofs.Helping.{keeps_refl, keeps_trans}
use Rattle.eqc_plain.proofs.Spending.{spends_refl, spends_trans}
use Rattle.eqc_apply.proofs.applier.Applier.serve_boxes.Goals as goal

pub loop-nth-init : goal.loop-nth-init
loop-nth-init g c = let n = c.args.self.now.names in record {
  kept = keeps_refl (holding_in n);
  worker = worker_stays n n (extends_stays n n (extends_refl n));
  turns = spends_refl n.turns;
}

pub returns-then-serve_nth-clause-kept : goal.returns-then-serve_nth-clause-kept
returns-then-serve_nth-clause-kept g c = keeps_trans c.loop-nth.invariant.kept
    c.serve_nth.ensures.kept

pub returns-then-serve_nth-clause-worker : goal.returns-then-serve_nth-clause-worker
returns-then-serve_nth-clause-worker g c = worker_trans c.loop-nth.invariant.worker
    c.serve_nth.ensures.worker

pub loop-nth-preserved : goal.loop-nth-preserved
loop-nth-preserved g c =
    record {
      kept = keeps_trans c.loop-nth.invariant.kept c.serve_nth.ensures.kept;
      worker = worker_trans c.loop-nth.invariant.worker c.serve_nth.ensures.worker;
      turns = spends_trans c.loop-nth.invariant.turns c.serve_nth.ensures.turns;
    }

pub returns-then-serve_nth-clause-turns : goal.returns-then-serve_nth-clause-turns
returns-then-serve_nth-clause-turns g c = spends_trans c.loop-nth.invariant.turns
    c.serve_nth.ensures.turns

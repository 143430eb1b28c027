use Rattle.eqc_core.proofs.worker.Worker.seat.Goals as goal

pub returns-clause-view : goal.returns-clause-view
returns-clause-view c = λ z. rw (
  c.new.ensures.items,
  c.new-2.ensures.items,
  c.new-3.ensures.items,
  c.new-4.ensures.items,
  c.new-5.ensures.items,
)

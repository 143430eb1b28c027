use Rattle.std.proofs.Common.{◌-◌, ap, ◌∙◌, arith}
use Rattle.eqc_parallel.specs.Ticket.{once_below}
use Rattle.eqc_parallel.proofs.TicketSteps.{settles, word_zero}
use Rattle.eqc_parallel.proofs.ticket.settle.Goals as goal

pub free-requires : goal.free-requires
free-requires c k lt = absurd (let a = c.close_with-closed.ensures.counts.1 in let b =
    c.requires.own.2 in omega arith)

pub returns-clause-once : goal.returns-clause-once
returns-clause-once c x =
    let a = settles c.args.table.shared.key c.args.seat.id c.args.seat.me.0 _ _ c.requires.all
    c.close_with-closed.ensures.values.2 in
    a.0 x ∙ ap (λ n. once_below x n) (word_zero _ _ c.word-word.ensures)

pub returns-clause-beyond : goal.returns-clause-beyond
returns-clause-beyond c =
    let a = settles c.args.table.shared.key c.args.seat.id c.args.seat.me.0 _ _ c.requires.all
    c.close_with-closed.ensures.values.2 in
    a.1 ∙ ap (λ n. n - c.args.table.shared.key.outputs) (word_zero _ _ c.word-word.ensures)

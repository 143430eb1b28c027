use Rattle.std.proofs.Common.{arith}
use Rattle.eqc_parallel.proofs.TicketSteps.{split_allows}
use Rattle.eqc_parallel.proofs.ticket.halve.Goals as goal

pub split_seat-requires : goal.split_seat-requires
split_seat-requires c =
    let own = c.requires.own in (
      own.0,
      rw own.1 (omega arith),
      split_allows c.args.words.now.key c.args.seat.now.id
          c.args.seat.now.me.0 c.requires.fresh,
    )

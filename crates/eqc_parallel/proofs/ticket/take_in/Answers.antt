use Rattle.std.proofs.Common.{arith}
use Rattle.eqc_parallel.proofs.TicketSteps.{join_allows}
use Rattle.eqc_parallel.proofs.ticket.take_in.Goals as goal

pub join_seat-requires : goal.join_seat-requires
join_seat-requires c =
    let own = c.requires.own in let other = c.requires.other in (
      own.0,
      other.0,
      other.3,
      rw own.1 (omega arith),
      join_allows c.args.words.now.key
          c.args.seat.now.id c.args.seat.now.me.0 c.args.other.id c.args.other.me.0,
    )

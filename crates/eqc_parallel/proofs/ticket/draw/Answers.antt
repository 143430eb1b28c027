use Rattle.std.proofs.Common.{arith}
use Rattle.eqc_parallel.proofs.TicketSteps.{draw_allows}
use Rattle.eqc_parallel.proofs.ticket.draw.Goals as goal

pub fetch_add-requires : goal.fetch_add-requires
fetch_add-requires c =
    let own = c.requires.own in (
      own.0,
      rw own.1 (omega arith),
      draw_allows c.args.words.now.key c.args.words.now.table_id.slots c.args.seat.now.id
          c.args.seat.now.me c.requires.room,
    )

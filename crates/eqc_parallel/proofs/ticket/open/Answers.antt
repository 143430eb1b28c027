use Rattle.std.proofs.Common.{refl, arith}
use Rattle.eqc_parallel.proofs.TicketCounts.{opens}
use Rattle.eqc_parallel.proofs.ticket.open.Goals as goal

pub of_words-requires : goal.of_words-requires
of_words-requires c = (refl, opens c.args.key (omega arith))

use Rattle.std.proofs.lemmas.List.Elements.{All-append}
use Rattle.eqc_parallel.specs.Verdicts.{asked, IsRight}
use Rattle.eqc_parallel.proofs.ShareLemmas.{joined}
use Rattle.eqc_parallel.proofs.share.put_together.Goals as goal

pub returns : goal.returns
returns c = record {
  share = let h = c.requires.mine in let k = c.requires.theirs in
      rw c.in-Ok.ensures.items
      (joined (asked c.args.pair.now c.args.every) c.args.words.now.table_id
      c.args.mine.seat.me.0.seats c.args.theirs.seat.me.0.seats
      c.args.mine.seat c.args.theirs.seat c.take_in.new.seat c.args.mine.verdicts.items
      c.args.theirs.verdicts.items h k c.take_in.ensures.0
      c.take_in.ensures.1
      (All-append (IsRight (asked c.args.pair.now c.args.every)) c.args.mine.verdicts.items
      c.args.theirs.verdicts.items h.right k.right));
}

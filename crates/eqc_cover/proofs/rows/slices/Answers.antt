use Rattle.std.proofs.Common.{arith, map}
use Rattle.eqc_cover.proofs.RowLaws.{distinct_more, all_alike}
use Rattle.eqc_cover.proofs.rows.slices.Goals as goal

pub loop-k-preserved : goal.loop-k-preserved
loop-k-preserved c =
    distinct_more c.args.columns c.loop-k.slices.items c.push.new.self.items c.args.rows.now
    c.loop-k.k _ c.up_to_last_literal.result
    (omega arith) (rw c.get.ensures at c.up_to_last_literal.ensures) c.loop-k.invariant
    c.in_ok-push.ensures.items

pub returns : goal.returns
returns c = all_alike c.args.columns (map (λ r. r.now) c.loop-k.slices.items) c.args.rows.now
    c.loop-k.k (omega arith) c.loop-k.invariant

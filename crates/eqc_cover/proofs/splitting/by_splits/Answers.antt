use Rattle.std.proofs.Common.{arith}
use Rattle.eqc_cover.proofs.SplitsLaws.{owned_at, gathers_owned}
use Rattle.eqc_cover.proofs.splitting.by_splits.Goals as goal

pub copy-result-requires : goal.copy-result-requires
copy-result-requires g c =
    owned_at g.D.References.entry _ c.make_each.new.made.items c.args.place c.index.result.now
    (omega arith) c.index.ensures (gathers_owned g.D.References.entry _ _ _
    c.make_each.ensures.gathers)

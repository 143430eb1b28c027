use Rattle.std.proofs.Common.{arith}
use Rattle.eqc_build.proofs.TableLaws.{released_more}
use Rattle.eqc_build.proofs.step_diagrams.release.Goals as goal

pub loop-k-preserved : goal.loop-k-preserved
loop-k-preserved g c =
    let i = c.loop-k.invariant in (
      released_more g.D.References.entry _ _ _ c.args.kept.now.table c.loop-k.kept.table
          c.take_back.new.table c.args.plan.now
          c.args.kept.now.used.items c.args.kept.now.until.items c.args.at c.get-s.result
          (omega (arith, c.requires.within c.loop-k.k (omega arith), c.get-s.ensures, i.0.size)) i.0
          (rw i.2 at (c.is_over.ensures.over c.if-not-is_over.false))
          (rw i.1 at (c.is_over.ensures.spent c.if-not-is_over.false))
          c.take_back.ensures,
      i.1,
      i.2,
    )

use Rattle.eqc_build.proofs.TableLaws.{moves_twice, keeps_more}
use Rattle.eqc_build.proofs.step_diagrams.StepDiagrams.release_due.Goals as goal

pub loop-next-preserved : goal.loop-next-preserved
loop-next-preserved g c =
    let i = c.loop-next.invariant in
    let s = c.in-Some.next.now.0.1 in (
      moves_twice g.D.References.entry _ _ _ c.args.self.now.table c.loop-next.self.table
          c.take_back.new.table i.0 c.take_back.ensures.moves,
      keeps_more g.D.References.entry _ _ c.args.self.now.table c.loop-next.self.table
          c.take_back.new.table c.args.plan.now
          c.args.self.now.used.items c.moment-at.result s (c.is_there-there.ensures
          c.if-not-there.false) i.1
          (rw i.2 at (c.is_spent.ensures.spent c.if-not-is_spent.false)) c.take_back.ensures,
      i.2,
    )

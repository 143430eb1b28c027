use Rattle.std.proofs.Common.{◌++◌, ◌∷◌, []}
use Rattle.eqc_build.proofs.BuildLaws.{completing_ready, completing_more}
use Rattle.eqc_build.proofs.step_diagrams.StepDiagrams.complete.Goals as goal

pub advance-requires-clause-ready : goal.advance-requires-clause-ready
advance-requires-clause-ready g c =
    completing_ready c.args.plan.now.steps c.args.plan.now.last c.args.turn c.loop-step.self.table
    c.loop-step.steps.items c.pop.new.self.items
    c.in-Some.step c.in-Some.ensures.items c.loop-step.invariant.1.wanted

pub loop-step-preserved : goal.loop-step-preserved
loop-step-preserved g c = (
  c.loop-step.invariant.0 ++ c.in-Some.step ∷ [],
  rw c.in_ok-advance.ensures.until
      (completing_more g.D.References.entry c.args.plan.now c.args.turn c.args.goals.now _ _ _ _ _
      c.loop-step.self.table
      c.advance.new.kept.table _ c.loop-step.self.used.items c.advance.new.kept.used.items
      c.loop-step.steps.items c.pop.new.self.items
      c.loop-step.invariant.0 c.in-Some.step c.requires.turn.some c.requires.turn.moments
      c.requires.turn.ends c.in-Some.ensures.items
      c.loop-step.invariant.1 (rw c.moment.ensures at c.in_ok-advance.ensures.ok)
      c.in_ok-advance.ensures.counted),
)

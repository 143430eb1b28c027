use Rattle.std.proofs.Common.{◌<◌, length, arith, sym, subst}
use Rattle.eqc_build.specs.Steps.{StepsOf}
use Rattle.eqc_build.proofs.PairLaws.{pair_matched}
use Rattle.eqc_build.proofs.steps.Steps.roots.Goals as goal

pub bounds-second_signals-output : goal.bounds-second_signals-output
bounds-second_signals-output c =
    let inside : c.args.output < length c.self.inside.pair.now.first.outputs =
    subst (λ (g : StepsOf). c.args.output < length g.pair.first.outputs) (sym c.self.view_is)
    c.requires in
    rw c.second_signals.ensures.each (omega (
      arith,
      inside,
      (pair_matched c.self.inside.pair.now c.recall_laws.ensures).size,
    ))

pub step_in-requires-2-clause-within : goal.step_in-requires-2-clause-within
step_in-requires-2-clause-within c =
    let inside : c.args.output < length c.self.inside.pair.now.first.outputs =
    subst (λ (g : StepsOf). c.args.output < length g.pair.first.outputs) (sym c.self.view_is)
    c.requires in
    rw c.second_signals.ensures.each
    (omega (
      arith,
      (pair_matched c.self.inside.pair.now c.recall_laws.ensures).within
          c.args.output inside,
      c.self.invariant.others.size,
    ))

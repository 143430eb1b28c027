use Rattle.std.proofs.Common.{sym, ◌∙◌, ap}
use Rattle.eqc_build.specs.Steps.{StepsOf, uses_in}
use Rattle.eqc_build.proofs.steps.Steps.uses.Goals as goal

pub returns : goal.returns
returns c =
    let side = c.side-side.result in
    let chosen = c.deref.ensures.value ∙ ap (λ (g : StepsOf). g.chosen) c.self.view_is in
    c.uses_in.ensures ∙ (ap (λ l. uses_in side.flat.now l side.places.now side.start side.step)
    chosen ∙ sym c.side-side.ensures.uses)

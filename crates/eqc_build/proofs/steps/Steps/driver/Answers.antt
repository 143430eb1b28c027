use Rattle.std.proofs.Common.{◌∙◌, subst, ap}
use Rattle.std.specs.Option.{option_copied}
use Rattle.eqc_build.specs.Steps.{StepsOf}
use Rattle.eqc_build.specs.StepDrivers.{IsDriverIn}
use Rattle.eqc_build.proofs.StepLaws.{made_in}
use Rattle.eqc_build.proofs.steps.Steps.driver.Goals as goal

pub returns : goal.returns
returns c =
    let side = c.side-side.result in
    let chosen = c.deref.ensures.value ∙ ap (λ (g : StepsOf). g.chosen) c.self.view_is in
    made_in c.args.self.now side.flat.now (option_copied side.wide) side.tables.now.entries
    side.variables.now side.places.now side.start side.step c.args.step c.driver_in.result
    c.side-side.ensures
    (subst (λ l. IsDriverIn side.flat.now side.variables.now l side.places.now side.start side.step
    c.driver_in.result) chosen c.driver_in.ensures)

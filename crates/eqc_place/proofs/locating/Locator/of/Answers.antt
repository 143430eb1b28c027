use Rattle.std.proofs.Common.{◌∙◌, ap}
use Rattle.std.proofs.lemmas.Result.{IfOk-weaker}
use Rattle.eqc_build.specs.Steps.{StepsOf}
use Rattle.eqc_place.proofs.locating.Locator.of.Goals as goal

pub returns : goal.returns
returns c = IfOk-weaker c.within.result _ _ (λ l same. ap (λ (g : StepsOf). g.pair) same
    ∙ c.each.ensures.pair) c.within.ensures

use Rattle.std.proofs.Common.{arith, refl}
use Rattle.eqc_build.proofs.DemandLaws.{zeros}
use Rattle.eqc_build.proofs.step_diagrams.StepDiagrams.clear.Goals as goal

pub loop-s-init : goal.loop-s-init
loop-s-init g c = (
  record { variables = refl; held = λ e. refl },
  refl,
  (λ i lt. absurd (omega arith)),
  zeros c.fill.new.self.items _
      (c.fill.ensures.items (λ y same. same)),
)

use Rattle.std.proofs.Common.{◌≡◌, sym, ◌∙◌, subst}
use Rattle.eqc_build.specs.Steps.{goals_of}
use Rattle.eqc_build.specs.Schedule.{AreWithin}
use Rattle.eqc_build.proofs.StepLaws.{goals_two, goals_three, goals_within}
use Rattle.eqc_build.proofs.steps.Steps.goals.Goals as goal

pub returns-in-None : goal.returns-in-None
returns-in-None c =
    let g = c.args.self.now in
    let are : c.of.result ≡ goals_of g c.args.output = c.of.ensures
    ∙ goals_two g c.args.output c.roots.result c.roots.ensures c.in-None.ensures in
    record {
      goals = are;
      within = subst (AreWithin g) (sym are) (goals_within g c.args.output
          c.len-count.ensures.lawful c.requires);
    }

pub returns-in-Some : goal.returns-in-Some
returns-in-Some c =
    let g = c.args.self.now in
    let are : c.of-in-Some.result ≡ goals_of g c.args.output = c.of-in-Some.ensures
    ∙ goals_three g c.args.output c.in-Some.third c.roots.result c.roots.ensures
    c.in-Some.ensures in
    record {
      goals = are;
      within = subst (AreWithin g) (sym are) (goals_within g c.args.output
          c.len-count.ensures.lawful c.requires);
    }

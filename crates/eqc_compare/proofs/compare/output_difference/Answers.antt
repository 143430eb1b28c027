use Rattle.std.proofs.Common.{◌∙◌}
use Rattle.eqc_compare.specs.Comparing.{differs_at}
use Rattle.eqc_build.proofs.TableLaws.{owned_held}
use Rattle.eqc_compare.proofs.DifferenceLaws.{differs_with, differs_without, gained_behind}
use Rattle.eqc_compare.proofs.DifferenceLaws.{still_held, third_ready}
use Rattle.eqc_compare.proofs.compare.output_difference.Goals as goal

pub returns-in_default-clause-ok : goal.returns-in_default-clause-ok
returns-in_default-clause-ok g c =
    let made = c.in_ok-difference.ensures.ok in
    record {
      variables = made.variables;
      held = made.held;
      function = λ a. made.function a
          ∙ differs_without c.args.steps.now c.args.output a c.in_default.ensures;
    }

pub get-requires-clause-some : goal.get-requires-clause-some
get-requires-clause-some g c = third_ready c.args.kept.now.table c.args.steps.now c.args.output
    c.in-Some.root c.requires.ready c.in-Some.ensures

pub apply-allowed-requires-clause-f : goal.apply-allowed-requires-clause-f
apply-allowed-requires-clause-f g c =
    still_held _ _ _ _ _ (owned_held g.D.References.entry _ c.args.kept.now.table _ _
    c.requires.kept.owned c.get.ensures) c.in_ok-difference.ensures.ok

pub returns-clause-ok : goal.returns-clause-ok
returns-clause-ok g c =
    let made = c.in_ok-difference.ensures.ok in
    gained_behind g.D.References.entry _ _ _ _ _ c.apply-allowed.result _ _
    (differs_at c.args.steps.now.pair c.args.output)
    (λ a.
    differs_with c.args.steps.now c.args.output c.in-Some.root a _ _ c.len-count.ensures.lawful
    c.in-Some.ensures
    (c.requires.kept.built.values c.in-Some.root c.get.result.now c.get.ensures a)
    (made.function a))
    made c.apply-allowed.ensures.ok c.give_back.ensures

use Rattle.std.proofs.Common.{◌≡◌, ◌+◌, [], ◌∷◌, length, get_or, arith, ap, ap₂, sym, ◌∙◌, subst}
use Rattle.eqc_build.specs.CoverTables.{tables_in}
use Rattle.eqc_build.specs.Steps.{StepsOf, assumed_root, assumed_start, step_in}
use Rattle.eqc_build.proofs.StepLaws.{lent_some, lent_none, assumption_of_pair, no_assumed_root}
use Rattle.eqc_build.proofs.StepLaws.{assumed_root_is, output_assumed}
use Rattle.eqc_build.proofs.steps.Steps.assumed_root.Goals as goal

pub returns-in-None : goal.returns-in-None
returns-in-None c =
    let v : StepsOf =
    record {
      pair = c.self.inside.pair.now;
      places = c.self.inside.places.now;
      others =
          c.self.inside.others.now;
      further = c.self.inside.further.now;
      chosen =
          c.self.inside.chosen.items;
      tables = tables_in c.self.inside.tables;
      wide =
          (c.self.inside.first_wide, c.self.inside.second_wide);
    } in
    subst (λ g. [] ≡ assumed_root g) c.self.view_is
    (sym (no_assumed_root v (lent_none v.pair c.assumption.result c.assumption.ensures
    c.in-None.is)))

pub bounds-output_signals-0 : goal.bounds-output_signals-0
bounds-output_signals-0 c =
    let v : StepsOf =
    record {
      pair = c.self.inside.pair.now;
      places = c.self.inside.places.now;
      others =
          c.self.inside.others.now;
      further = c.self.inside.further.now;
      chosen =
          c.self.inside.chosen.items;
      tables = tables_in c.self.inside.tables;
      wide =
          (c.self.inside.first_wide, c.self.inside.second_wide);
    } in
    let is = lent_some v.pair c.assumption.result c.in-Some.assumption c.assumption.ensures
    c.in-Some.is in
    let one = assumption_of_pair v.pair c.in-Some.assumption.now c.self.invariant.lawful is in
    rw c.output_signals.ensures.signals (omega (arith, one.one_output, one.flat.each_output))

pub step_in-requires-clause-within : goal.step_in-requires-clause-within
step_in-requires-clause-within c =
    let v : StepsOf =
    record {
      pair = c.self.inside.pair.now;
      places = c.self.inside.places.now;
      others =
          c.self.inside.others.now;
      further = c.self.inside.further.now;
      chosen =
          c.self.inside.chosen.items;
      tables = tables_in c.self.inside.tables;
      wide =
          (c.self.inside.first_wide, c.self.inside.second_wide);
    } in
    let is = lent_some v.pair c.assumption.result c.in-Some.assumption c.assumption.ensures
    c.in-Some.is in
    rw c.output_signals.ensures.signals (omega (
      arith,
      output_assumed v c.self.invariant
          c.in-Some.assumption.now is,
      c.self.invariant.further.size,
    ))

pub returns-in-Some : goal.returns-in-Some
returns-in-Some c =
    let v : StepsOf =
    record {
      pair = c.self.inside.pair.now;
      places = c.self.inside.places.now;
      others =
          c.self.inside.others.now;
      further = c.self.inside.further.now;
      chosen =
          c.self.inside.chosen.items;
      tables = tables_in c.self.inside.tables;
      wide =
          (c.self.inside.first_wide, c.self.inside.second_wide);
    } in
    let is = lent_some v.pair c.assumption.result c.in-Some.assumption c.assumption.ensures
    c.in-Some.is in
    let start : length v.places + length v.others ≡ assumed_start v.pair =
    ap₂ ◌+◌ c.self.invariant.places.size c.self.invariant.others.size in
    subst (λ g. c.step_in.result ∷ [] ≡ assumed_root g) c.self.view_is
    (ap (λ s. s ∷ [])
    (c.step_in.ensures ∙ rw (c.deref.ensures.value, c.output_signals.ensures.signals)
    (ap (λ n. step_in v.chosen v.further n (get_or c.in-Some.assumption.now.output_signals 0 0))
    start))
    ∙ sym (assumed_root_is v c.self.invariant c.in-Some.assumption.now is))

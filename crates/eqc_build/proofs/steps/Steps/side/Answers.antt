use Rattle.std.proofs.Common.{Some, None, ◌≡◌, ◌+◌, ◌-◌, ◌<◌, length, arith, ap₂, sym, subst}
use Rattle.eqc_pair.specs.PairOf.{second_variables, assumed_variables, assumed}
use Rattle.eqc_build.specs.CoverTables.{tables_in}
use Rattle.eqc_build.specs.Steps.{StepsOf, IsSide, steps_in, assumed_start}
use Rattle.eqc_build.proofs.StepLaws.{side_first, side_second, side_assumed, lent_some, lent_none}
use Rattle.eqc_build.proofs.StepLaws.{assumed_of, nothing_assumed}
use Rattle.eqc_build.proofs.steps.Steps.side.Goals as goal

pub returns-then-step-second_start : goal.returns-then-step-second_start
returns-then-step-second_start c =
    let v : StepsOf =
    record {
      pair = c.self.inside.pair.now;
      places = c.self.inside.places.now;
      others =
          c.self.inside.others.now;
      further = c.self.inside.further.now;
      chosen =
          c.self.inside.chosen.items;
      tables = tables_in c.self.inside.tables;
      wide =
          (c.self.inside.first_wide, c.self.inside.second_wide);
    } in
    let inside : c.args.step < length v.pair.first.drivers =
    omega (arith, c.if-step-second_start.true, c.self.invariant.places.size) in
    subst (λ g. IsSide g c.first.result.now (Some v.wide.0) v.tables.first c.variables.result.now
    v.places 0 c.args.step c.args.step) c.self.view_is
    (rw (c.first.ensures, c.variables.ensures.each) (side_first v c.args.step c.self.invariant
    inside))

pub returns-then-step-assumed_start : goal.returns-then-step-assumed_start
returns-then-step-assumed_start c =
    let v : StepsOf =
    record {
      pair = c.self.inside.pair.now;
      places = c.self.inside.places.now;
      others =
          c.self.inside.others.now;
      further = c.self.inside.further.now;
      chosen =
          c.self.inside.chosen.items;
      tables = tables_in c.self.inside.tables;
      wide =
          (c.self.inside.first_wide, c.self.inside.second_wide);
    } in
    let size = c.self.invariant.places.size in
    let j = c.args.step - length v.places in
    let is : c.args.step ≡ length v.pair.first.drivers + j =
    omega (arith, c.if-step-second_start.false, size) in
    let inside : j < length v.pair.second.drivers = omega (
      arith,
      c.if-step-second_start.false,
      c.if-step-assumed_start.true,
      c.self.invariant.others.size,
    ) in
    subst (λ g. IsSide g c.second.result.now (Some v.wide.1) v.tables.second
    c.second_variables.result.now v.others (length v.places) j c.args.step) c.self.view_is
    (rw (c.second.ensures, c.second_variables.ensures.each)
    (subst (λ n. IsSide v v.pair.second (Some v.wide.1) v.tables.second (second_variables v.pair)
    v.others n j c.args.step) (sym size) (side_second v c.args.step j c.self.invariant is
    inside)))

pub unreachable-requires : goal.unreachable-requires
unreachable-requires c =
    let v : StepsOf =
    record {
      pair = c.self.inside.pair.now;
      places = c.self.inside.places.now;
      others =
          c.self.inside.others.now;
      further = c.self.inside.further.now;
      chosen =
          c.self.inside.chosen.items;
      tables = tables_in c.self.inside.tables;
      wide =
          (c.self.inside.first_wide, c.self.inside.second_wide);
    } in
    let within : c.args.step < steps_in v.pair = subst (λ (g : StepsOf). c.args.step
    < steps_in g.pair) (sym c.self.view_is) c.requires in
    let none = nothing_assumed v.pair (lent_none v.pair c.assumption.result c.assumption.ensures
    c.in_default.is) in
    omega (
      arith,
      within,
      none,
      c.if-step-assumed_start.false,
      c.self.invariant.places.size,
      c.self.invariant.others.size,
    )

pub returns : goal.returns
returns c =
    let v : StepsOf =
    record {
      pair = c.self.inside.pair.now;
      places = c.self.inside.places.now;
      others =
          c.self.inside.others.now;
      further = c.self.inside.further.now;
      chosen =
          c.self.inside.chosen.items;
      tables = tables_in c.self.inside.tables;
      wide =
          (c.self.inside.first_wide, c.self.inside.second_wide);
    } in
    let start : length v.places + length v.others ≡ assumed_start v.pair =
    ap₂ ◌+◌ c.self.invariant.places.size c.self.invariant.others.size in
    let j = c.args.step - (length v.places + length v.others) in
    let is : c.args.step ≡ assumed_start v.pair + j = omega (
      arith,
      c.if-step-assumed_start.false,
      start,
    ) in
    let within : c.args.step < steps_in v.pair = subst (λ (g : StepsOf). c.args.step
    < steps_in g.pair) (sym c.self.view_is) c.requires in
    let inside : j < length (assumed v.pair).drivers =
    omega (arith, within, c.if-step-assumed_start.false, start) in
    let netlist : assumed v.pair ≡ c.in-Some.assumption.now =
    assumed_of v.pair c.in-Some.assumption.now (lent_some v.pair c.assumption.result
    c.in-Some.assumption c.assumption.ensures c.in-Some.is) in
    subst (λ g. IsSide g c.in-Some.assumption.now None v.tables.assumed
    c.assumed_variables.result.now v.further (length v.places + length v.others) j c.args.step)
    c.self.view_is
    (subst (λ f. IsSide v f None v.tables.assumed c.assumed_variables.result.now v.further
    (length v.places + length v.others) j c.args.step) netlist
    (rw c.assumed_variables.ensures.each
    (subst (λ n. IsSide v (assumed v.pair) None v.tables.assumed (assumed_variables v.pair)
    v.further n j c.args.step) (sym start) (side_assumed v c.args.step j c.self.invariant is
    inside))))

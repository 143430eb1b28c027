use Rattle.std.proofs.Common.{◌≡◌, ◌<◌, Bool, Vec, Global, Some, length, refl, arith, ap, sym, ◌∙◌}
use Rattle.std.specs.Option.{option_map}
use Rattle.eqc_build.proofs.KeptLaws.{kept_twice, moved_kept, comparable_next}
use Rattle.eqc_compare.specs.Comparing.{told_at}
use Rattle.eqc_compare.specs.declared.outcome.Difference.{Difference}
use Rattle.eqc_compare.proofs.ToldLaws.{told_none, told_skip, told_more, told_first, told_all}
use Rattle.eqc_compare.proofs.ToldLaws.{told_chosen}
use Rattle.eqc_compare.proofs.compare.compare_in_turn.Goals as goal

pub loop-output-init : goal.loop-output-init
loop-output-init g c = record {
  told = told_none c.args.schedule.now.plan.steps.pair c.args.schedule.now.every
      c.new-found.result.items c.new-found.ensures.items;
  moves = record {
    moves = record { variables = refl; held = λ e. refl };
    built =
        c.requires.kept.built;
  };
}

pub loop-output-preserved-then-is_marked : goal.loop-output-preserved-then-is_marked
loop-output-preserved-then-is_marked g c =
    let p = c.args.schedule.now.plan.steps.pair in
    let outputs = rw (c.first.ensures, c.pair.ensures) at c.outputs-output-end.ensures in
    let n = c.loop-output.output in
    let inside : n < length p.first.outputs = omega (arith, ap length outputs) in
    record {
      told =
          told_skip p c.args.schedule.now.every c.loop-output.found.items n
          c.loop-output.invariant.told inside
          (c.requires.settled.none n inside (rw c.deref.ensures.value at (sym c.is_marked.ensures
          ∙ c.if-is_marked.true)));
      moves = c.loop-output.invariant.moves;
    }

pub compare_kept-requires : goal.compare_kept-requires
compare_kept-requires g c =
    let p = c.args.schedule.now.plan.steps.pair in
    let outputs = rw (c.first.ensures, c.pair.ensures) at c.outputs-output-end.ensures in
    let n = c.loop-output.output in
    let inside : n < length p.first.outputs = omega (arith, ap length outputs) in
    comparable_next g.D.References.entry c.args.schedule.now.plan c.args.schedule.now.settled.items
    _ _ n inside
    (rw c.deref.ensures.value at (sym c.is_marked.ensures ∙ c.if-is_marked.false)) c.requires.turns
    (moved_kept g.D.References.entry p _ _ _ _ c.requires.kept c.loop-output.invariant.moves)

pub loop-output-preserved-in-None : goal.loop-output-preserved-in-None
loop-output-preserved-in-None g c =
    let p = c.args.schedule.now.plan.steps.pair in
    let outputs = rw (c.first.ensures, c.pair.ensures) at c.outputs-output-end.ensures in
    let n = c.loop-output.output in
    let inside : n < length p.first.outputs = omega (arith, ap length outputs) in
    let chosen = c.requires.settled.chosen n inside (rw c.deref.ensures.value at
    (sym c.is_marked.ensures ∙ c.if-is_marked.false)) in
    record {
      told =
          told_skip p c.args.schedule.now.every c.loop-output.found.items n
          c.loop-output.invariant.told inside
          (told_chosen p n chosen ∙ (sym c.in_ok-compare_kept.ensures.found
          ∙ ap (option_map (λ (v : Vec Bool Global). v.items)) c.in-None.is));
      moves = kept_twice g.D.References.entry p _ _ _ _ _ _ c.loop-output.invariant.moves
          c.compare_kept.ensures.moves;
    }

pub returns-then-not-schedule-clause-found : goal.returns-then-not-schedule-clause-found
returns-then-not-schedule-clause-found g c =
    let p = c.args.schedule.now.plan.steps.pair in
    let outputs = rw (c.first.ensures, c.pair.ensures) at c.outputs-output-end.ensures in
    let n = c.loop-output.output in
    let inside : n < length p.first.outputs = omega (arith, ap length outputs) in
    let chosen = c.requires.settled.chosen n inside (rw c.deref.ensures.value at
    (sym c.is_marked.ensures ∙ c.if-is_marked.false)) in
    let here : told_at p n ≡ Some c.in-Some.values.items = told_chosen p n chosen
    ∙ (sym c.in_ok-compare_kept.ensures.found
    ∙ ap (option_map (λ (v : Vec Bool Global). v.items)) c.in-Some.is) in
    let d : Difference = record { output = n; values = c.in-Some.values } in
    rw c.in-Ok.ensures.items (told_first p c.args.schedule.now.every c.loop-output.found.items n
    c.loop-output.invariant.told inside d refl here c.if-not-schedule.true)

pub loop-output-preserved : goal.loop-output-preserved
loop-output-preserved g c =
    let p = c.args.schedule.now.plan.steps.pair in
    let outputs = rw (c.first.ensures, c.pair.ensures) at c.outputs-output-end.ensures in
    let n = c.loop-output.output in
    let inside : n < length p.first.outputs = omega (arith, ap length outputs) in
    let chosen = c.requires.settled.chosen n inside (rw c.deref.ensures.value at
    (sym c.is_marked.ensures ∙ c.if-is_marked.false)) in
    let here : told_at p n ≡ Some c.in-Some.values.items = told_chosen p n chosen
    ∙ (sym c.in_ok-compare_kept.ensures.found
    ∙ ap (option_map (λ (v : Vec Bool Global). v.items)) c.in-Some.is) in
    let d : Difference = record { output = n; values = c.in-Some.values } in
    record {
      told = rw c.in-Ok.ensures.items (told_more p c.args.schedule.now.every
          c.loop-output.found.items n c.loop-output.invariant.told inside d refl here
          c.if-not-schedule.false);
      moves = kept_twice g.D.References.entry p _ _ _ _ _ _ c.loop-output.invariant.moves
          c.compare_kept.ensures.moves;
    }

pub returns-clause-found : goal.returns-clause-found
returns-clause-found g c =
    let p = c.args.schedule.now.plan.steps.pair in
    let outputs = rw (c.first.ensures, c.pair.ensures) at c.outputs-output-end.ensures in
    told_all p c.args.schedule.now.every c.loop-output.found.items c.loop-output.output
    c.loop-output.invariant.told (omega (arith, ap length outputs, c.loop-output-test.false))

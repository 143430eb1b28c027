use Rattle.std.proofs.Common.{◌∙◌, ◌≡◌, ◌<◌, ap, arith, length}
use Rattle.eqc_netlist.specs.Graph.{driver_at}
use Rattle.eqc_strash.specs.Numbering.{rows_until}
use Rattle.eqc_strash.proofs.PlaceLaws.{rows_within, named_more}
use Rattle.eqc_strash.proofs.row_set.rows_named.Goals as goal

pub loop-s-preserved : goal.loop-s-preserved
loop-s-preserved c =
    let f = c.args.flat.now in
    let lawful = c.steps-signals.ensures.lawful in
    let inside : c.loop-s.s < length f.drivers =
    omega (
      arith,
      c.loop-s-test.true,
      ap length c.steps-signals.ensures.steps,
      lawful.step_count,
    ) in
    let here : c.rows_until.result ≡ rows_until (driver_at f c.loop-s.s) =
    c.rows_until.ensures.count ∙ ap rows_until c.driver.ensures in
    let few = rows_within f c.loop-s.s lawful inside in
    record {
      within = omega (arith, here, few, c.max-count.ensures, c.loop-s.invariant.within);
      small = omega (
        arith,
        c.rows_until.ensures.small,
        c.max-count.ensures,
        c.loop-s.invariant.small,
      );
      named = named_more f c.loop-s.s c.loop-s.count c.max-count.result c.loop-s.invariant.named
          (omega (arith, c.max-count.ensures)) (omega (arith, here, c.max-count.ensures));
    }

pub returns-clause-within : goal.returns-clause-within
returns-clause-within c = c.loop-s.invariant.within

pub returns-clause-named : goal.returns-clause-named
returns-clause-named c = λ s inside. c.loop-s.invariant.named s (omega (
  arith,
  inside,
  c.loop-s-test.false,
  ap length c.steps-signals.ensures.steps,
  c.steps-signals.ensures.lawful.step_count,
))

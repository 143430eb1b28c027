use Rattle.std.proofs.Common.{◌<◌, length, get_or, ap, arith}
use Rattle.eqc_pair.specs.PairOf.{second_signals}
use Rattle.eqc_build.proofs.PairLaws.{pair_matched}
use Rattle.eqc_compare.proofs.AlikeLaws.{marked_more}
use Rattle.eqc_compare.proofs.alike.outputs_of_one_class.Goals as goal

pub bounds-signals-output : goal.bounds-signals-output
bounds-signals-output c =
    let p = c.args.pair.now in
    let h = c.recall_laws.ensures in
    let less : c.loop-output.output < length p.first.output_signals =
    omega (
      arith,
      c.loop-output-test.true,
      ap length c.second_signals-others.ensures.each,
      (pair_matched p h).size,
      h.first_flat.each_output,
    ) in
    rw (c.output_signals-signals.ensures.signals, c.first.ensures) less

pub bounds-first-signals : goal.bounds-first-signals
bounds-first-signals c =
    let p = c.args.pair.now in
    let h = c.recall_laws.ensures in
    let inside : c.loop-output.output < length p.first.outputs =
    omega (
      arith,
      c.loop-output-test.true,
      ap length c.second_signals-others.ensures.each,
      (pair_matched p h).size,
    ) in
    let less : get_or p.first.output_signals c.loop-output.output 0
    < length c.args.classes.now.first = omega (
      arith,
      c.requires.first_size,
      h.first_flat.outputs_within c.loop-output.output inside,
    ) in
    rw (c.output_signals-signals.ensures.signals, c.first.ensures, c.first-in-loop-output.ensures)
    less

pub bounds-second-others : goal.bounds-second-others
bounds-second-others c =
    let p = c.args.pair.now in
    let h = c.recall_laws.ensures in
    let inside : c.loop-output.output < length p.first.outputs =
    omega (
      arith,
      c.loop-output-test.true,
      ap length c.second_signals-others.ensures.each,
      (pair_matched p h).size,
    ) in
    let less : get_or (second_signals p) c.loop-output.output 0 < length c.args.classes.now.second =
    omega (arith, c.requires.second_size, (pair_matched p h).within c.loop-output.output inside)
    in
    rw (c.second_signals-others.ensures.each, c.second.ensures) less

pub loop-output-preserved : goal.loop-output-preserved
loop-output-preserved c =
    let p = c.args.pair.now in
    let i = c.loop-output.invariant in
    let o = c.loop-output.output in
    let less : o < length (second_signals p) = omega (
      arith,
      c.loop-output-test.true,
      ap length c.second_signals-others.ensures.each,
    ) in
    let more = marked_more p c.args.classes.now c.loop-output.marks.items o c.recall_laws.ensures
    c.requires less i.0 i.1 in
    rw (
      c.in_ok-push.ensures.items,
      c.output_signals-signals.ensures.signals,
      c.second_signals-others.ensures.each,
      c.first-in-loop-output.ensures,
      c.second.ensures,
      c.first.ensures,
    ) more

pub returns : goal.returns
returns c =
    let p = c.args.pair.now in
    let size = (pair_matched p c.recall_laws.ensures).size in
    let all = ap length c.second_signals-others.ensures.each in
    record {
      each = λ o inside. c.loop-output.invariant.1 o (omega (
        arith,
        inside,
        size,
        all,
        c.loop-output-test.false,
      ));
    }

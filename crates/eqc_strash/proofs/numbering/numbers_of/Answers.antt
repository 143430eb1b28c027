use Rattle.std.proofs.Common.{◌∙◌, ◌≡◌, ◌<◌, false, ap, arith, length, refl, subst, sym}
use Rattle.eqc_strash.specs.Structure.{constant}
use Rattle.eqc_strash.specs.Tables.{Grows, structures_in}
use Rattle.eqc_strash.specs.Numbering.{AreRowClasses}
use Rattle.eqc_strash.proofs.KeyLaws.{grows_not, grows_more}
use Rattle.eqc_strash.proofs.NumberingLaws.{deps_known, numbered_more, numbered_all}
use Rattle.eqc_strash.proofs.numbering.numbers_of.Goals as goal

pub loop-k-init : goal.loop-k-init
loop-k-init c = record {
  rows = refl;
  grown = grows_not (constant false) (structures_in c.args.table.now) 0;
  numbered = record {
    size = omega (
      arith,
      c.in_ok-numbers.ensures.len,
      ap length c.steps-steps.ensures.steps,
      c.steps-steps.ensures.lawful.step_count,
    );
    each = λ i less. absurd (omega (arith, less));
  };
}

pub signal_class-requires-clause-rows : goal.signal_class-requires-clause-rows
signal_class-requires-clause-rows c =
    subst (λ rows. AreRowClasses c.args.flat.now rows c.args.row_places.now)
    (sym c.loop-k.invariant.rows) c.requires.rows

pub signal_class-requires-clause-known : goal.signal_class-requires-clause-known
signal_class-requires-clause-known c =
    let steps = c.steps-steps.ensures.steps in
    let inside : c.loop-k.k < length c.args.flat.now.steps =
    omega (arith, c.loop-k-test.true, ap length steps) in
    rw (steps, c.deref.ensures.value)
    (deps_known c.args.flat.now c.args.variables.now (structures_in c.loop-k.table)
    c.loop-k.numbers.items c.loop-k.k
    c.steps-steps.ensures.lawful inside c.loop-k.invariant.numbered)

pub loop-k-preserved : goal.loop-k-preserved
loop-k-preserved c =
    let steps = c.steps-steps.ensures.steps in
    let inside : c.loop-k.k < length c.args.flat.now.steps =
    omega (arith, c.loop-k-test.true, ap length steps) in
    let class = rw (steps, c.deref.ensures.value) at c.in_ok-class.ensures.class in
    record {
      rows = c.in_ok-class.ensures.rows ∙ c.loop-k.invariant.rows;
      grown =
          grows_more (constant false) (structures_in c.args.table.now)
          (structures_in c.loop-k.table)
          (structures_in c.signal_class.new.table) c.loop-k.k 1 c.loop-k.invariant.grown
          c.in_ok-class.ensures.kept;
      numbered =
          rw steps
          (numbered_more c.args.flat.now c.args.variables.now (structures_in c.loop-k.table)
          (structures_in c.signal_class.new.table)
          c.loop-k.numbers.items c.loop-k.k 1 c.in_ok-class.class c.steps-steps.ensures.lawful
          inside c.loop-k.invariant.numbered
          c.in_ok-class.ensures.kept class);
    }

pub returns-clause-rows : goal.returns-clause-rows
returns-clause-rows c = c.loop-k.invariant.rows

pub returns-clause-kept : goal.returns-clause-kept
returns-clause-kept c =
    let all : c.loop-k.k ≡ length c.args.flat.now.drivers = omega (
      arith,
      c.loop-k-test.false,
      c.loop-k.auto.k-end,
      ap length c.steps-steps.ensures.steps,
      c.steps-steps.ensures.lawful.step_count,
    ) in
    subst (Grows (constant false) (structures_in c.args.table.now) (structures_in c.loop-k.table))
    all c.loop-k.invariant.grown

pub returns-clause-numbers : goal.returns-clause-numbers
returns-clause-numbers c =
    numbered_all c.args.flat.now c.args.variables.now (structures_in c.loop-k.table)
    c.loop-k.numbers.items c.loop-k.k
    c.steps-steps.ensures.lawful (omega (
      arith,
      c.loop-k-test.false,
      c.loop-k.auto.k-end,
      ap length c.steps-steps.ensures.steps,
    ))
    c.loop-k.invariant.numbered

use Rattle.std.proofs.Common.{[], arith}
use Rattle.eqc_core.proofs.Names.{times-nil}
use Rattle.eqc_guard.specs.declared.parcel.Parcel.TheVariants.{Empty}
use Rattle.eqc_arena.proofs.Changing.{after_still}
use Rattle.eqc_arena.proofs.Unboxing.{swaps, swap_marks, swap_notes}
use Rattle.eqc_apply.proofs.Handing.{looked, look_marks, marks_trans, come_may}
use Rattle.eqc_apply.proofs.boxes.take_now.Goals as goal

pub swap_box-requires : goal.swap_box-requires
swap_box-requires c =
    let few = c.requires.few in
    come_may [] (looked c.args.worker.now c.look_box.new.self c.look_box.ensures.step) c.args.b
    Empty c.requires.ready c.requires.there few (omega arith) tt

pub returns : goal.returns
returns c =
    let e = c.swap_box.ensures in
    let out = c.swap_box.result in
    let look = c.look_box.ensures.step in
    record {
      came = after_still (looked c.args.worker.now c.look_box.new.self look)
          (swaps out Empty c.look_box.new.self c.swap_box.new.self e.whole.1 tt
          (λ x. omega (arith, times-nil x)) e.step);
      right = e.right;
      marks = marks_trans (look_marks c.args.worker.now c.look_box.new.self look)
          (swap_marks out Empty c.look_box.new.self c.swap_box.new.self e.whole.1 e.step);
      noted = swap_notes out Empty c.look_box.new.self c.swap_box.new.self e.whole.1 e.step;
      whole = e.whole.1;
    }

pub returns-then-look_box-eq0 : goal.returns-then-look_box-eq0
returns-then-look_box-eq0 c =
    let look = c.look_box.ensures.step in
    record {
      came = looked c.args.worker.now c.look_box.new.self look;
      right = tt;
      marks = look_marks c.args.worker.now c.look_box.new.self look;
      noted = λ x. omega (arith, times-nil x);
      whole = tt;
    }

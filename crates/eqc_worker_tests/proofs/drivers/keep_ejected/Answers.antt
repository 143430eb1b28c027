use Rattle.std.proofs.Common.{◌≡◌, ℕ, ◌<◌, ◌≤◌, get_or, sym, subst, arith, inr}
use Rattle.eqc_worker_tests.proofs.Driving.{there_is, dropped, one_more, counts_self, counts_same}
use Rattle.eqc_worker_tests.proofs.Driving.{kept_more}
use Rattle.eqc_worker_tests.proofs.drivers.keep_ejected.Goals as goal

pub reference-requires : goal.reference-requires
reference-requires g c =
    let x = get_or c.args.ejected.now c.loop-x.x-index 0 in
    inr
    (omega (
      arith,
      c.loop-x.invariant x (c.requires.slots x (there_is c.args.ejected.now c.loop-x.x-index
          c.loop-x-test.true)),
      dropped x c.args.ejected.now c.loop-x.x-index c.loop-x-test.true,
      counts_self x,
    ))

pub loop-x-preserved : goal.loop-x-preserved
loop-x-preserved g c = λ y two.
    omega (
      arith,
      c.loop-x.invariant y two,
      dropped y c.args.ejected.now c.loop-x.x-index c.loop-x-test.true,
      kept_more y c.reference.result c.loop-x.references.items c.keep.new.references.items
          c.keep.ensures,
      counts_same c.reference.result.number (get_or c.args.ejected.now c.loop-x.x-index 0) y
          c.reference.ensures,
    )

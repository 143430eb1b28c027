use Rattle.std.proofs.Common.{arith}
use Rattle.eqc_apply.proofs.Giving.{none_left}
use Rattle.eqc_apply.proofs.held.Held.give_up.Goals as goal

pub invariant_of-self : goal.invariant_of-self
invariant_of-self c = record {
  once = c.give_up_one.ensures.has c.loop-place.self.variables
      c.loop-place.self.once;
}

pub returns-clause-none : goal.returns-clause-none
returns-clause-none c =
    none_left c.loop-place.place c.loop-place.self.counts.items
    (let e = c.loop-place-test.false in let p = c.loop-place.auto.place-end in let l =
    c.loop-place.invariant.len in let z = c.len-place-end.ensures in omega arith)
    c.loop-place.invariant.done

use Rattle.std.proofs.Common.{arith}
use Rattle.eqc_pair.proofs.OrderedLemmas.{range_more, range_small, range_variables, range_order}
use Rattle.eqc_pair.proofs.order.declared_order.Goals as goal

pub numbers-preserved : goal.numbers-preserved
numbers-preserved c = range_more c.numbers.number c.numbers.numbers.items c.push.new.self.items
    c.numbers.invariant c.in_ok-push.ensures.items

pub narrow-requires : goal.narrow-requires
narrow-requires c = range_small c.numbers.number c.numbers.numbers.items c.deref.result.now
    (omega arith) c.numbers.invariant c.deref.ensures.value

pub narrow-requires-2 : goal.narrow-requires-2
narrow-requires-2 c = range_small c.numbers.number c.numbers.numbers.items c.deref-2.result.now
    (omega arith) c.numbers.invariant c.deref-2.ensures.value

pub returns-clause-variables : goal.returns-clause-variables
returns-clause-variables c =
    range_variables c.args.inputs c.numbers.number c.numbers.numbers.items c.deref.result.now
    c.deref-2.result.now c.in_ok-narrow.field-0.items
    c.in_ok-narrow-2.field-0.items (omega arith) c.numbers.invariant c.deref.ensures.value
    c.in_ok-narrow.ensures c.deref-2.ensures.value
    c.in_ok-narrow-2.ensures

pub returns-clause-lawful : goal.returns-clause-lawful
returns-clause-lawful c =
    range_order c.args.inputs c.numbers.number c.numbers.numbers.items c.deref.result.now
    c.in_ok-narrow.field-0.items (omega arith) c.numbers.invariant c.deref.ensures.value
    c.in_ok-narrow.ensures

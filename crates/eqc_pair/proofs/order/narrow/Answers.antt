use Rattle.std.proofs.Common.{◌∙◌}
use Rattle.std.proofs.lemmas.List.{take_all}
use Rattle.eqc_pair.proofs.PickLemmas.{taken_more}
use Rattle.eqc_pair.proofs.order.narrow.Goals as goal

pub numbers-preserved : goal.numbers-preserved
numbers-preserved c = taken_more c.args.numbers.now c.numbers.number-index c.numbers.all.items
    c.push.new.self.items c.numbers-test.true c.numbers.invariant c.in_ok-push.ensures.items

pub returns : goal.returns
returns c = c.numbers.invariant ∙ take_all c.numbers.number-index c.args.numbers.now
    c.numbers-test.false

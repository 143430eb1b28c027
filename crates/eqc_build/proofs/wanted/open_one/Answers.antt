use Rattle.std.specs.BinaryHeap.{heap_items}
use Rattle.eqc_build.proofs.WantedLaws.{opened_one}
use Rattle.eqc_build.proofs.wanted.open_one.Goals as goal

pub returns-in_ok-push-clause-opened : goal.returns-in_ok-push-clause-opened
returns-in_ok-push-clause-opened g c = opened_one c.args.table.now c.args.step
    (heap_items c.args.heap.now) (heap_items c.push.new.self) c.in_ok-push.ensures.permutation

use Rattle.std.proofs.Common.{◌≡◌, ◌<◌, ◌≤◌}
use Rattle.eqc_worker_tests.proofs.Driving.{ups, confirmed_below}
use Rattle.eqc_worker_tests.proofs.drivers.Driver.up_confirmed.Goals as goal

pub counted-reference-requires-clause-there : goal.counted-reference-requires-clause-there
counted-reference-requires-clause-there g c =
    confirmed_below c.args.self.now.phase c.args.self.now.position c.in-Confirmed.x
    c.args.self.now.worker c.args.self.now.driven.stands c.cells-cells.ensures.known
    c.in-Confirmed.is c.if-x-lt2.false

pub invariant_of-self : goal.invariant_of-self
invariant_of-self g c =
    record {
      driven =
          ups c.args.self.now.phase c.args.self.now.position c.in-Confirmed.x
          c.counted-reference.result c.args.self.now.references.items
          c.keep.new.references.items c.args.self.now.worker c.counted-reference.new.worker
          c.args.self.now.driven c.counted-reference.ensures.name
          c.keep.ensures c.counted-reference.ensures.step;
    }

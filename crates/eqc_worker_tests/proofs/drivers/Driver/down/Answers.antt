use Rattle.std.proofs.Common.{◌≡◌, ◌<◌, ◌≤◌, arith}
use Rattle.eqc_worker_tests.proofs.Driving.{downs}
use Rattle.eqc_worker_tests.proofs.drivers.Driver.down.Goals as goal

pub invariant_of-self : goal.invariant_of-self
invariant_of-self c = record {
  driven =
      downs c.args.self.now.phase c.args.self.now.position c.args.i c.swap_remove-reference.result
      c.args.self.now.references.items
      c.swap_remove-reference.new.self.items c.args.self.now.worker c.down.new.self
      c.args.self.now.driven
      (let n = c.if-i-len.false in let l = c.len.ensures in
      omega (arith, c.args.self.now.references.ok))
      c.swap_remove-reference.ensures.value c.swap_remove-reference.ensures.items
      c.down.ensures.constant c.down.ensures.step;
}

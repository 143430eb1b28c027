use Rattle.std.proofs.Common.{◌≡◌, ℕ, ◌<◌, ◌≤◌, arith, sym, subst}
use Rattle.eqc_guard.specs.Known.{IsHeld}
use Rattle.eqc_cache.proofs.Trading.{below}
use Rattle.eqc_worker_tests.proofs.Driving.{is_held, ups}
use Rattle.eqc_worker_tests.proofs.drivers.Driver.up.Goals as goal

pub counted-reference-requires-clause-there : goal.counted-reference-requires-clause-there
counted-reference-requires-clause-there g c =
    let held =
    is_held c.args.self.now.references.items c.args.self.now.worker.known.core c.args.i
    c.index.result.now c.args.self.now.driven.covered
    (let n = c.if-i-len.false in let l = c.len.ensures in
    omega (arith, c.args.self.now.references.ok)) c.index.ensures in
    below c.args.self.now.worker c.number-x.result c.cells-cells.ensures.known c.if-x-lt2.false
    (subst (λ (n : ℕ). IsHeld c.args.self.now.worker.known.core n) (sym c.number-x.ensures)
    held)

pub invariant_of-self : goal.invariant_of-self
invariant_of-self g c =
    record {
      driven =
          ups c.args.self.now.phase c.args.self.now.position c.number-x.result
          c.counted-reference.result c.args.self.now.references.items
          c.keep.new.references.items c.args.self.now.worker c.counted-reference.new.worker
          c.args.self.now.driven c.counted-reference.ensures.name
          c.keep.ensures c.counted-reference.ensures.step;
    }

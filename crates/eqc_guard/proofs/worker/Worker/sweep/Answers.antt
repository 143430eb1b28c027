use Rattle.std.proofs.Common.{◌+◌, ◌<◌, subst, arith}
use native.Mathlib.Decide.{dec_le}
use Rattle.eqc_core.specs.Words.{announced_words}
use Rattle.eqc_guard.specs.Known.{IsKnown}
use Rattle.eqc_guard.specs.Standing.{Standing}
use Rattle.eqc_guard.proofs.Sweeping.{begins, reads_none, further, ends}
use Rattle.eqc_guard.proofs.worker.Worker.sweep.Goals as goal

pub loop-ejected-init : goal.loop-ejected-init
loop-ejected-init c =
    let known : IsKnown c.args.self.now.known = subst (λ (s : Standing). IsKnown s.known)
    c.self.view_is c.self.invariant.worker.known in
    begins c.args.self.now known c.requires.ready

pub returns-in-Some : goal.returns-in-Some
returns-in-Some c =
    let zero = reads_none c.args.self.now c.loop-ejected.self c.scan_one.new.self
    c.scan_one.ensures.step.0 c.loop-ejected.invariant c.requires.may c.scan_one.ensures.step.2
    in
    elim (dec_le (announced_words c.loop-ejected.self.known.core.sizes)
    (c.loop-ejected.self.known.core.position + 1)) [
      | yes end ↦
          ends c.args.self.now c.loop-ejected.self c.scan_one.new.self c.scan_one.ensures.step.0
          c.loop-ejected.invariant
          c.scan_one.ensures.step.1 c.scan_one.ensures.step.2 zero end c.in-Some.ejected.items
          c.in-Some.ensures.some
      | no n ↦ absurd (let q = c.in-Some.ensures.goes_on.1 (omega arith) in cc)
    ]

pub loop-ejected-preserved : goal.loop-ejected-preserved
loop-ejected-preserved c =
    let zero = reads_none c.args.self.now c.loop-ejected.self c.scan_one.new.self
    c.scan_one.ensures.step.0 c.loop-ejected.invariant c.requires.may c.scan_one.ensures.step.2
    in
    let lt : c.loop-ejected.self.known.core.position + 1
    < announced_words c.loop-ejected.self.known.core.sizes =
    c.scan_one.ensures.goes_on.0 c.in_default.is in
    further c.args.self.now c.loop-ejected.self c.scan_one.new.self c.scan_one.ensures.step.0
    c.loop-ejected.invariant c.scan_one.ensures.step.1 c.scan_one.ensures.step.2 zero lt

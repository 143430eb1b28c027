use Rattle.std.proofs.Common.{subst}
use Rattle.eqc_guard.specs.Known.{IsKnown}
use Rattle.eqc_guard.specs.Standing.{Standing}
use Rattle.eqc_guard.proofs.Absorbing.{quiet_here, absorbs}
use Rattle.eqc_guard.proofs.worker.Worker.absorb.Goals as goal

pub scan-requires-clause-may : goal.scan-requires-clause-may
scan-requires-clause-may c =
    let known : IsKnown c.args.self.now.known = subst (λ (s : Standing). IsKnown s.known)
    c.self.view_is c.self.invariant.worker.known in
    quiet_here c.args.self.now.known known c.requires.rest

pub scan-requires-2-clause-may : goal.scan-requires-2-clause-may
scan-requires-2-clause-may c =
    let known : IsKnown c.args.other.known = subst (λ (s : Standing). IsKnown s.known)
    c.other.view_is c.other.invariant.worker.known in
    quiet_here c.args.other.known known c.requires.other_rest

pub returns : goal.returns
returns c =
    let known : IsKnown c.args.self.now.known = subst (λ (s : Standing). IsKnown s.known)
    c.self.view_is c.self.invariant.worker.known in
    absorbs c.args.self.now c.args.other c.scan.new.self c.scan-2.new.self c.scan.ensures
    c.scan-2.ensures c.take_in.new.self known c.take_in.ensures

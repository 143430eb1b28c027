use Rattle.std.proofs.Common.{subst}
use Rattle.eqc_guard.specs.Known.{IsKnown}
use Rattle.eqc_guard.specs.Standing.{Standing}
use Rattle.eqc_guard.proofs.Sameness.{same_functions}
use Rattle.eqc_guard.proofs.worker.Worker.same.Goals as goal

pub returns : goal.returns
returns c =
    let known : IsKnown c.args.self.now.known = subst (λ (s : Standing). IsKnown s.known)
    c.self.view_is c.self.invariant.worker.known in
    same_functions c.args.self.now.known c.args.f.now.number c.args.g.now.number known
    c.requires.first c.requires.second

use Rattle.std.proofs.Common.{arith}
use Rattle.eqc_flat.proofs.FindingLaws.{steps_end}
use Rattle.eqc_flat.specs.Flattened.{path_at}
use Rattle.eqc_flat.specs.Finding.{steps_of}
use Rattle.eqc_flat.proofs.hierarchy.Hierarchy.steps.Goals as goal

pub returns : goal.returns
returns c =
    steps_end c.args.self.now.0 c.args.self.now.1 c.up.inner
    (steps_of c.args.self.now.0 c.args.self.now.1 (path_at c.args.self.now.0 c.args.self.now.1
    c.args.i)) c.up.steps.items
    c.up.invariant.made (omega (arith, c.up-test.false))

use Rattle.eqc_sweep.specs.Copying.{AreCopies}
use Rattle.eqc_gates.specs.Entering.{AreLiterals}
use Rattle.eqc_fraig.proofs.inside.Inside.literals_in.Goals as goal

pub returns : goal.returns
returns g c =
    let are : AreLiterals c.args.self.now c.graph-graph.result.now c.deref-2.result.now =
    rw (c.deref-2.ensures.value, c.graph-graph.ensures, ← c.self.view_is)
    c.self.invariant.values in
    let copies : AreCopies c.graph-graph.result.now c.loop-netlists.sweep c.deref-3.result.now =
    rw c.deref-3.ensures.value c.loop-netlists.invariant in
    c.moved.ensures c.args.self.now c.graph-graph.result.now c.loop-netlists.sweep are copies

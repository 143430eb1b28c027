use Rattle.std.proofs.Common.{List}
use Rattle.eqc_xag.specs.declared.node.Node.{Node}
use Rattle.eqc_sweep.specs.Known.{AreKnown}
use Rattle.eqc_sweep.proofs.table.keep_all.Given as goal

abbrev pub invariant-loop-known : goal.invariant-loop-known
invariant-loop-known l = (nodes : List Node) → AreKnown nodes l.fn.entries.items
    → AreKnown nodes l.others → AreKnown nodes l.entries.items

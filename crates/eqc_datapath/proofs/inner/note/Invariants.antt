use Rattle.std.specs.Prelude.{◌≡◌, length, List}
use Rattle.eqc_xag.specs.declared.node.Node.{Node}
use Rattle.eqc_xag.specs.Graph.{IsWithin}
use Rattle.eqc_sweep.specs.Finding.{AreEqual}
use Rattle.eqc_pair.specs.PairOf.{PairOf}
use Rattle.eqc_gates.specs.Entering.{AreLiterals}
use Rattle.eqc_datapath.proofs.inner.note.Given as goal

abbrev pub invariant-steps : goal.invariant-steps
invariant-steps l = record {
  size : length l.shown.items ≡ length l.initial.shown.items;
  literals : (p : PairOf) (nodes : List Node) → IsWithin nodes l.first
      → AreEqual nodes l.first l.second → AreLiterals p nodes l.literals
      → AreLiterals p nodes l.initial.shown.items → AreLiterals p nodes l.shown.items;
}

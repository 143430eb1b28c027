use Rattle.std.specs.Prelude.{◌≡◌, length, List}
use Rattle.eqc_xag.specs.declared.node.Node.{Node}
use Rattle.eqc_sweep.specs.Copying.{AreCopies}
use Rattle.eqc_numbers.specs.Copies.{AreCopiesOf}
use Rattle.eqc_numbers.proofs.shown.copies.Given as goal

abbrev pub invariant-loop-k : goal.invariant-loop-k
invariant-loop-k l = record {
  size : length l.all.items ≡ l.k;
  copies : (old new : List Node) → AreCopies old new l.table
      → AreCopiesOf old new l.literals l.all.items;
}

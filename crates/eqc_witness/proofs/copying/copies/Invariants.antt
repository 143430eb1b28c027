use Rattle.std.proofs.Common.{◌≡◌, length}
use Rattle.eqc_witness.specs.Cones.{AreCopies, HasInputs}
use Rattle.eqc_witness.proofs.copying.copies.Given as goal

abbrev pub invariant-loop-place : goal.invariant-loop-place
invariant-loop-place l = record {
  size : length l.table.items ≡ l.place;
  inputs : HasInputs l.copy (length l.variables);
  copies : AreCopies l.graph l.copy l.variables l.below.nodes.items l.table.items;
}

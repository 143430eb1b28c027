use Rattle.std.proofs.Common.{◌≡◌, ◌+◌, length}
use Rattle.eqc_witness.specs.Cones.{HasInputs}
use Rattle.eqc_witness.proofs.copying.inputs_alone.Given as goal

abbrev pub invariant-loop : goal.invariant-loop
invariant-loop l = record {
  count : length l.graph ≡ l.counter + 1;
  inputs : HasInputs l.graph l.counter;
}

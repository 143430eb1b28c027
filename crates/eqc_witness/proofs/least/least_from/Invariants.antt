use Rattle.std.proofs.Common.{◌≡◌, true, length, take}
use Rattle.eqc_rup.specs.Clauses.{IsSound}
use Rattle.eqc_witness.specs.Cones.{holds_under}
use Rattle.eqc_witness.proofs.BeginningLemmas.{IsBegun}
use Rattle.eqc_witness.proofs.least.least_from.Given as goal

abbrev pub invariant-loop-position : goal.invariant-loop-position
invariant-loop-position l = record {
  long : length l.values.items ≡ l.cone.positions;
  holds : holds_under l.cone.graph l.cone.root l.values.items ≡ true;
  sound : IsSound l.cone.graph l.means.search;
  begun : IsBegun l.cone.positions (holds_under l.cone.graph l.cone.root)
      (take l.position l.values.items);
}

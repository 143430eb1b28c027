use Rattle.std.proofs.Common.{◌≡◌}
use Rattle.eqc_compare.specs.Alike.{IsKnown}
use Rattle.eqc_literals.specs.Literals.{KeepsMarks}
use Rattle.eqc_engine.proofs.sweeping.sweep_more.Given as goal

abbrev pub invariant-loop : goal.invariant-loop
invariant-loop g l = record {
  pair : l.inside ≡ l.initial.inside;
  known : IsKnown l.initial.inside l.alike;
  kept : KeepsMarks l.initial.inside l.initial.alike.equal.items l.alike.equal.items;
}

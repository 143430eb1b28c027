use Rattle.std.proofs.Common.{◌≡◌}
use Rattle.eqc_compare.specs.Alike.{IsKnown}
use Rattle.eqc_literals.specs.Literals.{KeepsMarks}
use Rattle.eqc_fraig.proofs.inside.Inside.add_up.Given as goal

abbrev pub invariant-turns : goal.invariant-turns
invariant-turns g l = record {
  pair : l.self ≡ l.initial.self;
  known : IsKnown l.initial.self l.alike;
  kept : KeepsMarks l.initial.self l.initial.alike.equal.items l.alike.equal.items;
}

use Rattle.std.proofs.Common.{◌≡◌}
use Rattle.std.specs.List.{All}
use Rattle.eqc_compare.specs.Alike.{IsKnown}
use Rattle.eqc_literals.specs.Literals.{KeepsMarks}
use Rattle.eqc_miter.specs.Asking.{IsAnswerOf}
use Rattle.eqc_compare.proofs.ToldLaws.{AreToldBefore}
use Rattle.eqc_fraig.proofs.inside.Inside.search_each.Given as goal

abbrev pub invariant-loop-output : goal.invariant-loop-output
invariant-loop-output g l = record {
  pair : l.self ≡ l.initial.self;
  known : IsKnown l.initial.self l.alike;
  kept : KeepsMarks l.initial.self l.initial.alike.equal.items l.alike.equal.items;
  ahead : All (IsAnswerOf l.initial.self) l.course.ahead.items;
  told : AreToldBefore l.initial.self l.every l.found.items l.output;
}

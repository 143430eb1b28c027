use Rattle.std.proofs.Common.{◌≡◌}
use Rattle.eqc_compare.specs.Alike.{IsKnown}
use Rattle.eqc_literals.specs.Literals.{KeepsMarks}
use Rattle.eqc_report.specs.Seen.{IsLeftOf}
use Rattle.eqc_report.specs.Left.{KeepsTold}
use Rattle.eqc_engine.proofs.course.by_sweeping.Given as goal

abbrev pub invariant-attempts : goal.invariant-attempts
invariant-attempts g l = record {
  pair : l.inside ≡ l.initial.inside;
  known : IsKnown l.initial.inside l.alike;
  kept : KeepsMarks l.initial.inside l.initial.alike.equal.items l.alike.equal.items;
  seen : IsLeftOf l.initial.inside l.initial.left → IsLeftOf l.initial.inside l.left;
  told : KeepsTold l.initial.left l.left;
}

use Rattle.std.specs.Prelude.{◌≡◌}
use Rattle.eqc_build.specs.Steps.{IsChoice}
use Rattle.eqc_compare.specs.Alike.{IsKnown}
use Rattle.eqc_fraig.proofs.inside.Inside.add_up_inside.Given as goal

abbrev pub invariant-looks : goal.invariant-looks
invariant-looks g l = record {
  choice : IsChoice l.pair l.chosen.items;
  known : IsKnown l.pair l.alike;
  marks : l.alike.equal ≡ l.initial.alike.equal;
}

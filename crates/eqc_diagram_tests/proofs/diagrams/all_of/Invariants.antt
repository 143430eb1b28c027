use Rattle.std.proofs.Common.{◌≡◌, ◌+◌}
use Rattle.eqc_tree.specs.Holding.{Entry, copies, weight}
use Rattle.eqc_diagram_tests.proofs.diagrams.all_of.Given as goal

abbrev pub invariant-loop-i : goal.invariant-loop-i
invariant-loop-i g l = record {
  held : (e : Entry) → copies (g.D.References.holding l.d) e
      ≡ copies (g.D.References.holding l.fn.d) e + weight (g.D.References.entry l.all) e;
  variables : (g.D.References.holding l.d).variables ≡ (g.D.References.holding l.fn.d).variables;
}

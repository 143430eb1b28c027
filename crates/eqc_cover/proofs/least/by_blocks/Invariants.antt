use Rattle.std.proofs.Common.{◌≡◌, ◌+◌, ◌*◌, ◌-◌, ◌<◌, ◌≤◌, length}
use Rattle.eqc_tree.specs.Holding.{Entry, copies, weight, says}
use Rattle.eqc_tree.proofs.Choosing.{IsChosen}
use Rattle.eqc_cover.proofs.least.by_blocks.Given as goal

abbrev pub invariant-tries : goal.invariant-tries
invariant-tries g l = record {
  held : (e : Entry) → copies (g.D.References.holding l.d) e
      ≡ copies (g.D.References.holding l.fn.d) e + weight (g.D.References.entry l.rest) e;
  variables : (g.D.References.holding l.d).variables ≡ (g.D.References.holding l.fn.d).variables;
  some : 0 < l.longest;
  size : length l.values.items ≤ length l.variables;
  chosen : IsChosen l.variables (says (g.D.References.entry l.fn.f))
      (says (g.D.References.entry l.rest)) l.values.items;
}

-- a position is decided, or the next block is shorter
abbrev pub decreases-tries : goal.decreases-tries
decreases-tries g l = (length l.variables - length l.values.items) * (2 * length l.variables + 1)
    + l.longest

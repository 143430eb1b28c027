use Rattle.std.proofs.Common.{ℕ, Bool, take}
use Rattle.eqc_cover.specs.Splits.{Gathers, SaySplits}
use Rattle.eqc_cover.proofs.splitting.make_each.Given as goal

abbrev pub invariant-loop-split : goal.invariant-loop-split
invariant-loop-split g l = record {
  gathers : Gathers g.D.References.entry (g.D.References.holding l.fn.d) (g.D.References.holding
      l.d) l.made.items;
  say : (a : ℕ → Bool) → SaySplits g.D.References.entry l.made.items (take l.split-index l.splits)
      l.columns a;
}

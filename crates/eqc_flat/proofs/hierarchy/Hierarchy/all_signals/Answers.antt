use Rattle.std.proofs.Common.{◌++◌, ◌∙◌, sym, ap, ℕ, List}
use Rattle.eqc_flat.specs.Flattened.{named_here}
use Rattle.eqc_flat.proofs.ExpandedLaws.{range_more}
use Rattle.eqc_flat.proofs.hierarchy.Hierarchy.all_signals.Goals as goal

pub loop-i-preserved : goal.loop-i-preserved
loop-i-preserved c =
    c.in_ok-push_signals.ensures
    ∙ (ap (λ (xs : List (ℕ × List ℕ)). xs ++ named_here c.args.self.now.0 c.args.self.now.1
    c.loop-i.i) c.loop-i.invariant
    ∙ sym (range_more (named_here c.args.self.now.0 c.args.self.now.1) c.loop-i.i))

use Rattle.std.proofs.Common.{◌+◌, ◌-◌, length, take}
use Rattle.eqc_hierarchy.specs.Reaching.{IsReaching, IsAdding}
use Rattle.eqc_hierarchy.proofs.calls.reach.list_reached.Given as goal

abbrev pub invariant-models : goal.invariant-models
invariant-models l = IsReaching l.calls l.top (length l.calls + 1) l.seen.items l.all.items l.k

abbrev pub decreases-models : goal.decreases-models
decreases-models l = (length l.calls + 1) - l.k

abbrev pub invariant-callees : goal.invariant-callees
invariant-callees l = IsAdding l.calls l.top (length l.calls + 1) l.seen.items l.all.items l.k l.m
    (take l.callee-index l.callee-items)

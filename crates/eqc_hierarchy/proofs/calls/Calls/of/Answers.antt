use Rattle.std.proofs.Common.{◌∙◌, ◌≡◌, sym, length, arith}
use Rattle.eqc_hierarchy.specs.Hierarchy.{callees}
use Rattle.eqc_hierarchy.proofs.CallLaws.{entry_more, entry_last, no_callees}
use Rattle.eqc_hierarchy.proofs.calls.Calls.of.Goals as goal

pub loop-m-preserved : goal.loop-m-preserved
loop-m-preserved c =
    entry_more _ (callees c.args.library.now) c.loop-m.callees.items c.push.new.self.items
    c.loop-m.m c.in_ok-callees_of.field-0
    c.loop-m.invariant c.in_ok-push.ensures.items c.in_ok-callees_of.ensures

pub invariant_of-result : goal.invariant_of-result
invariant_of-result c =
    let end : c.loop-m.m ≡ length c.args.library.now = omega arith in
    entry_last _ (callees c.args.library.now) c.loop-m.callees.items c.push-2.new.self.items
    c.loop-m.m (length c.args.library.now)
    c.new.result end c.loop-m.invariant c.in_ok-push-2.ensures.items (c.new.ensures.items
    ∙ sym (no_callees c.args.library.now))

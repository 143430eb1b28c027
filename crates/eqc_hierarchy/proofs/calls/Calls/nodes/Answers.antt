use Rattle.std.proofs.Common.{length, ap, arith}
use Rattle.eqc_hierarchy.specs.Hierarchy.{callees}
use Rattle.eqc_hierarchy.proofs.CallLaws.{entry_count}
use Rattle.eqc_hierarchy.proofs.calls.Calls.nodes.Goals as goal

pub returns : goal.returns
returns c =
    omega (
      arith,
      c.len.ensures,
      entry_count _ (callees c.self.inside.library.now) c.self.inside.callees.items
          (length c.self.inside.library.now) c.self.invariant,
      c.self.inside.callees.ok.0,
      ap length c.self.view_is,
    )

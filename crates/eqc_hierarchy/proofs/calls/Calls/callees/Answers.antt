use Rattle.std.proofs.Common.{◌∙◌, ◌+◌, ◌<◌, length, ap, arith}
use Rattle.eqc_hierarchy.specs.Hierarchy.{callees}
use Rattle.eqc_hierarchy.proofs.CallLaws.{entry_at, entry_count}
use Rattle.eqc_hierarchy.proofs.calls.Calls.callees.Goals as goal

pub index-requires : goal.index-requires
index-requires c =
    omega (
      arith,
      c.requires,
      entry_count _ (callees c.self.inside.library.now) c.self.inside.callees.items
          (length c.self.inside.library.now) c.self.invariant,
      c.self.inside.callees.ok.0,
      ap length c.self.view_is,
    )

pub returns : goal.returns
returns c =
    let inside : c.args.m < length c.self.inside.library.now + 1 =
    omega (arith, c.requires, ap length c.self.view_is) in
    c.as_slice.ensures.value
    ∙ (entry_at _ (callees c.self.inside.library.now) c.self.inside.callees.items
    (length c.self.inside.library.now) c.args.m c.index.result.now c.self.invariant inside
    c.index.ensures
    ∙ ap (λ l. callees l c.args.m) c.self.view_is)

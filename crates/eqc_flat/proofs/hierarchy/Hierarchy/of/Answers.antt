use Rattle.std.proofs.Common.{◌≡◌, ℕ, sym, subst}
use Rattle.eqc_flat.specs.Instances.{IsExpanded}
use Rattle.eqc_flat.proofs.ExpandedLaws.{growing}
use Rattle.eqc_flat.proofs.hierarchy.Hierarchy.of.Goals as goal

pub of-requires-clause-growing : goal.of-requires-clause-growing
of-requires-clause-growing c = growing c.args.calls c.args.top c.requires.ends

pub invariant_of-result : goal.invariant_of-result
invariant_of-result c =
    let found = rw c.in-Some.is at c.in_ok-instances.ensures in
    let top : c.in-Some.instances.top ≡ c.args.top = found.1 in
    let P : ℕ → Type 0 = λ t.
    IsExpanded c.args.calls c.args.naming.now t c.in-Some.instances.models.items
    c.in-Some.instances.firsts.items
    c.in-Some.instances.places.items c.in-Some.instances.signals in
    subst P (sym top) (record {
      same = c.requires.named;
      growing = growing c.args.calls c.args.top c.requires.ends;
      there = c.requires.there;
      found = found.2;
    })

use Rattle.std.proofs.Common.{◌≡◌, Some, None, nat_eq, refl, ap, ◌∙◌}
use Rattle.std.specs.Map.{lookup}
use Rattle.indexmap.specs.IndexMap.{get}
use Rattle.eqc_build.proofs.ListedLaws.{lookup_last, inside_more, no_entries}
use Rattle.eqc_build.proofs.TableLaws.{few_held, few_moves, owned_moves, moves_twice, few_given}
use Rattle.eqc_build.proofs.table.give_back_few.Goals as goal

pub give_back-requires : goal.give_back-requires
give_back-requires g c =
    let k = c.in-Some.field-0-0 in
    let was : get nat_eq c.loop-reference.table k ≡ Some c.in-Some.reference =
    ap (lookup (nat_eq k)) c.in-Some.ensures.entries
    ∙ lookup_last k c.in-Some.reference c.pop.new.self.entries c.in-Some.ensures.updates.1 in
    few_held g.D.References.entry _ c.args.count (get nat_eq c.loop-reference.table) k
    c.in-Some.reference was (c.loop-reference.invariant.2 k (rw was refl))
    c.loop-reference.invariant.1

pub loop-reference-preserved : goal.loop-reference-preserved
loop-reference-preserved g c =
    let k = c.in-Some.field-0-0 in
    let old = get nat_eq c.loop-reference.table in
    let new = get nat_eq c.pop.new.self in
    let was : old k ≡ Some c.in-Some.reference = ap (lookup (nat_eq k)) c.in-Some.ensures.entries
    ∙ lookup_last k c.in-Some.reference c.pop.new.self.entries c.in-Some.ensures.updates.1 in
    let inside = c.loop-reference.invariant.2 k (rw was refl) in
    let m = few_moves g.D.References.entry _ _ c.args.count old new k c.in-Some.reference was inside
    c.in-Some.ensures.updates.0 c.give_back.ensures in (
      moves_twice g.D.References.entry _ _ _ _ _ _ c.loop-reference.invariant.0 m,
      owned_moves g.D.References.entry _ _ _ _ c.loop-reference.invariant.1 m,
      inside_more c.args.count old new k None inside c.in-Some.ensures.updates.0
          c.loop-reference.invariant.2,
    )

pub returns : goal.returns
returns g c =
    let none = no_entries c.loop-reference.table.entries c.in_default.ensures.found.1 in
    few_given g.D.References.entry _ _ _ c.args.count (get nat_eq c.loop-reference.table)
    (λ s. ap (lookup (nat_eq s)) none) c.loop-reference.invariant.0

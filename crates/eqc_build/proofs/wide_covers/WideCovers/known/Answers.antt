use Rattle.std.proofs.Common.{◌≡◌, nat_eq, Some, [], get_or, sym, subst}
use Rattle.std.specs.Map.{lookup}
use Rattle.eqc_cover.specs.Splits.{IsExpansionOf}
use Rattle.eqc_netlist.specs.Graph.{FlatOf}
use Rattle.eqc_build.specs.declared.wide_covers.Met.TheVariants.{Split}
use Rattle.eqc_build.proofs.wide_covers.WideCovers.known.Goals as goal

pub returns-in-Some-Split : goal.returns-in-Some-Split
returns-in-Some-Split c =
    let found : lookup (nat_eq c.args.rows) c.self.inside.met.entries
    ≡ Some (Split c.in-Some-Split.count c.in-Some-Split.expansion) =
    rw c.in-Some-Split.field-0-is at (sym c.in-Some-Split.ensures.value) in
    let is : IsExpansionOf (get_or c.self.inside.flat.now.rows c.args.rows []) c.in-Some-Split.count
    c.in-Some-Split.expansion =
    c.self.invariant.each c.args.rows (Split c.in-Some-Split.count c.in-Some-Split.expansion) found
    in
    subst (λ (f : FlatOf). IsExpansionOf (get_or f.rows c.args.rows []) c.args.columns
    c.in-Some-Split.expansion) c.self.view_is
    (rw c.if-count-columns.true at is)

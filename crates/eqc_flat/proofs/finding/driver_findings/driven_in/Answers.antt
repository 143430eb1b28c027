use Rattle.std.proofs.Common.{◌∙◌, sym, subst, ℕ, Option}
use Rattle.std.specs.Prelude.{IsSome}
use Rattle.eqc_flat.specs.DriverTable.{first_driven}
use Rattle.eqc_flat.proofs.FindingLaws.{driven_numbered, driven_known, driven_is}
use Rattle.eqc_hierarchy.proofs.FaultLaws.{there}
use Rattle.eqc_flat.proofs.finding.driver_findings.driven_in.Goals as goal

pub table_in-requires-clause-few : goal.table_in-requires-clause-few
table_in-requires-clause-few c =
    (driven_numbered c.args.driven c.args.hierarchy.now.0 c.args.hierarchy.now.1
    c.requires.refused).few

pub table_in-requires-clause-known : goal.table_in-requires-clause-known
table_in-requires-clause-known c =
    (driven_numbered c.args.driven c.args.hierarchy.now.0 c.args.hierarchy.now.1
    c.requires.refused).formals_known

pub unwrap-requires : goal.unwrap-requires
unwrap-requires c =
    let h = driven_numbered c.args.driven c.args.hierarchy.now.0 c.args.hierarchy.now.1
    c.requires.refused in
    let Q : Option ℕ → Type 0 = λ o. IsSome o in
    subst Q (sym c.first_driven.ensures)
    (there (first_driven c.args.driven c.in_ok-table.table.0 c.in_ok-table.table.1)
    (driven_known c.args.driven c.args.hierarchy.now.0 c.args.hierarchy.now.1 c.in_ok-table.table.0
    c.in_ok-table.table.1 h
    c.in_ok-table.ensures))

pub returns-clause-within : goal.returns-clause-within
returns-clause-within c =
    let h = driven_numbered c.args.driven c.args.hierarchy.now.0 c.args.hierarchy.now.1
    c.requires.refused in
    (driven_is c.args.driven c.args.hierarchy.now.0 c.args.hierarchy.now.1 c.in_ok-table.table.0
    c.in_ok-table.table.1 c.unwrap.result h
    c.in_ok-table.ensures (sym c.first_driven.ensures ∙ c.unwrap.ensures)).0

pub returns-clause-driven : goal.returns-clause-driven
returns-clause-driven c =
    let h = driven_numbered c.args.driven c.args.hierarchy.now.0 c.args.hierarchy.now.1
    c.requires.refused in
    (driven_is c.args.driven c.args.hierarchy.now.0 c.args.hierarchy.now.1 c.in_ok-table.table.0
    c.in_ok-table.table.1 c.unwrap.result h
    c.in_ok-table.ensures (sym c.first_driven.ensures ∙ c.unwrap.ensures)).1

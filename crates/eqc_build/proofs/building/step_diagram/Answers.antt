use Rattle.std.proofs.Common.{◌≡◌, ◌∙◌, ap, arith, length, map, subst, Some, IfSome}
use Rattle.eqc_cover.specs.Splits.{IsExpansionOf}
use Rattle.std.proofs.lemmas.List.{length-map}
use Rattle.eqc_netlist.specs.Cover.{cover_value}
use Rattle.eqc_cover.specs.Table.{table_value}
use Rattle.eqc_cover.proofs.TableLaws.{all_open}
use Rattle.eqc_build.specs.Building.{reference_of}
use Rattle.eqc_build.proofs.TableLaws.{owned_held}
use Rattle.eqc_cover.proofs.MakingLaws.{makes_as}
use Rattle.eqc_build.proofs.BuildLaws.{found_held, found_said}
use Rattle.eqc_build.proofs.building.step_diagram.Goals as goal

pub copy-requires : goal.copy-requires
copy-requires g c = owned_held g.D.References.entry _ c.args.table.now _ _ c.requires.kept.owned
    c.reference_at.ensures

pub cover_diagram-requires-clause-held : goal.cover_diagram-requires-clause-held
cover_diagram-requires-clause-held g c = found_held g.D.References.entry _ c.args.table.now
    c.in-Cover.columns c.deref.result.now c.requires.kept.owned (rw c.deref.ensures.value
    c.in_ok-columns-in-Cover.ensures)

pub cover_diagram-requires-clause-known : goal.cover_diagram-requires-clause-known
cover_diagram-requires-clause-known g c =
    let found = c.deref.result.now in
    let size : length (map (λ r. Some r.now) found) ≡ length (map (reference_of c.args.table.now)
    c.in-Cover.columns) =
    ap length (rw c.deref.ensures.value c.in_ok-columns-in-Cover.ensures) in
    let same : length c.in-Cover.columns ≡ length found =
    omega (
      arith,
      size,
      length-map found (λ r. Some r.now),
      length-map c.in-Cover.columns
          (reference_of c.args.table.now),
    ) in
    subst (λ n. IfSome c.in-Cover.known (λ e. IsExpansionOf c.in-Cover.rows.now n e.now)) same
    c.in-Cover.ensures.2

pub returns-in_ok-columns-in-Cover : goal.returns-in_ok-columns-in-Cover
returns-in_ok-columns-in-Cover g c =
    makes_as g.D.References.entry _ _ c.cover_diagram.result _ _
    (λ a.
    ap (cover_value c.in-Cover.rows.now)
    (found_said g.D.References.entry c.args.steps.now.pair c.args.table.now c.in-Cover.columns
    c.deref.result.now a c.requires.kept.built
    (rw c.deref.ensures.value c.in_ok-columns-in-Cover.ensures))
    ∙ c.in-Cover.ensures.1 a)
    c.cover_diagram.ensures

pub by_table-requires-clause-held : goal.by_table-requires-clause-held
by_table-requires-clause-held g c =
    found_held g.D.References.entry _ c.args.table.now c.in-Table.columns
    c.deref-in-Table.result.now c.requires.kept.owned
    (rw c.deref-in-Table.ensures.value c.in_ok-columns-in-Table.ensures)

pub by_table-requires-clause-depends : goal.by_table-requires-clause-depends
by_table-requires-clause-depends g c =
    let found = c.deref-in-Table.result.now in
    let size : length (map (λ r. Some r.now) found) ≡ length (map (reference_of c.args.table.now)
    c.in-Table.columns) = ap length (rw c.deref-in-Table.ensures.value
    c.in_ok-columns-in-Table.ensures) in
    all_open c.in-Table.truth (length found)
    (omega (
      arith,
      c.in-Table.ensures.1,
      size,
      length-map found (λ r. Some r.now),
      length-map c.in-Table.columns (reference_of c.args.table.now),
    ))

pub returns-in_ok-columns-in-Table : goal.returns-in_ok-columns-in-Table
returns-in_ok-columns-in-Table g c =
    makes_as g.D.References.entry _ _ c.by_table.result _ _
    (λ a.
    ap (table_value c.in-Table.truth)
    (found_said g.D.References.entry c.args.steps.now.pair c.args.table.now c.in-Table.columns
    c.deref-in-Table.result.now a c.requires.kept.built
    (rw c.deref-in-Table.ensures.value c.in_ok-columns-in-Table.ensures))
    ∙ c.in-Table.ensures.2 a)
    c.by_table.ensures

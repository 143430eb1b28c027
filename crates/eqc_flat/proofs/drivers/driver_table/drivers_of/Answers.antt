use Rattle.std.proofs.Common.{◌≡◌, ◌∙◌, sym, arith, ap, subst, inl, inr, map, length, List, ℕ}
use Rattle.std.proofs.Common.{Option, Some, None}
use Rattle.std.proofs.lemmas.List.{length-map}
use Rattle.std.specs.Option.{option_map}
use Rattle.eqc_netlist.specs.Graph.{DriverOf}
use Rattle.eqc_hierarchy.specs.Signals.{drivings}
use Rattle.eqc_flat.specs.DriverTable.{IsFilled, IsTable, IsDriven}
use Rattle.eqc_hierarchy.specs.Columns.{all_columns}
use Rattle.eqc_netlist.specs.StoredDrivers.{driver_from, AreInRange}
use Rattle.eqc_netlist.specs.declared.drivers.stored_driver.StoredDriver.{StoredDriver}
use Rattle.eqc_flat.proofs.DriverTableLaws.{some_known, none_known, driven_twice, not_driven_twice}
use Rattle.eqc_flat.proofs.DriverTableLaws.{undriven}
use Rattle.eqc_flat.proofs.DrivingLaws.{some_mapped, slot_empty}
use Rattle.eqc_flat.proofs.StoredDriverLaws.{in_range}
use Rattle.eqc_flat.proofs.drivers.driver_table.drivers_of.Goals as goal

pub returns-then-is_some-clause-refused : goal.returns-then-is_some-clause-refused
returns-then-is_some-clause-refused c =
    let library = c.args.hierarchy.now.0 in
    let top = c.args.hierarchy.now.1 in
    let filled = c.in_ok-table.ensures.filled in
    let P : List (Option StoredDriver) × Option ℕ → Type 0 =
    λ v. IsTable library top v.0 v.1 (drivings library top) in
    let Q : Option ℕ → Type 0 = λ b. IsTable library top c.table.inside.slots.items b
    (drivings library top) in
    let (s, known) = some_known c.table.inside.twice (sym c.is_some.ensures ∙ c.if-is_some.true) in
    inr (inl (
      c.of-then-is_some.ensures,
      driven_twice library top (map (option_map (driver_from (all_columns library)))
          c.table.inside.slots.items) s
          (subst Q known (subst P (sym c.table.view_is) filled)),
    ))

pub new-requires : goal.new-requires
new-requires c =
    let library = c.args.hierarchy.now.0 in
    let top = c.args.hierarchy.now.1 in
    let filled = c.in_ok-table.ensures.filled in
    let P : List (Option StoredDriver) × Option ℕ → Type 0 =
    λ v. IsTable library top v.0 v.1 (drivings library top) in
    let Q : Option ℕ → Type 0 = λ b. IsTable library top c.table.inside.slots.items b
    (drivings library top) in
    let slots : c.table.inside.slots.items ≡ map {B = Option StoredDriver}
    (λ (d : StoredDriver). Some d) c.in-Some.stored.items =
    rw c.in-Some.is at c.in_ok-stored.ensures in
    let R : List (Option DriverOf) → Type 0 =
    λ l. IsFilled library top l None (drivings library top) in
    let driven : IsDriven library top (map (driver_from (all_columns library))
    c.in-Some.stored.items) =
    subst R (ap (map (option_map (driver_from (all_columns library)))) slots
    ∙ some_mapped (all_columns library) c.in-Some.stored.items)
    (subst Q (none_known c.table.inside.twice (sym c.is_some.ensures ∙ c.if-is_some.false))
    (subst P (sym c.table.view_is) filled)) in
    let S : List (List ℕ) → Type 0 =
    λ cs. AreInRange (length cs) (map (driver_from cs) c.in-Some.stored.items) in
    subst S (sym c.requires.columns) (in_range library top (map (driver_from (all_columns library))
    c.in-Some.stored.items) c.requires.few (omega (arith, c.of.ensures.few)) driven)

pub returns-in-Some-clause-driven : goal.returns-in-Some-clause-driven
returns-in-Some-clause-driven c =
    let library = c.args.hierarchy.now.0 in
    let top = c.args.hierarchy.now.1 in
    let filled = c.in_ok-table.ensures.filled in
    let P : List (Option StoredDriver) × Option ℕ → Type 0 =
    λ v. IsTable library top v.0 v.1 (drivings library top) in
    let Q : Option ℕ → Type 0 = λ b. IsTable library top c.table.inside.slots.items b
    (drivings library top) in
    let slots : c.table.inside.slots.items ≡ map {B = Option StoredDriver}
    (λ (d : StoredDriver). Some d) c.in-Some.stored.items =
    rw c.in-Some.is at c.in_ok-stored.ensures in
    let R : List (Option DriverOf) → Type 0 =
    λ l. IsFilled library top l None (drivings library top) in
    let driven : IsDriven library top (map (driver_from (all_columns library))
    c.in-Some.stored.items) =
    subst R (ap (map (option_map (driver_from (all_columns library)))) slots
    ∙ some_mapped (all_columns library) c.in-Some.stored.items)
    (subst Q (none_known c.table.inside.twice (sym c.is_some.ensures ∙ c.if-is_some.false))
    (subst P (sym c.table.view_is) filled)) in
    let S : List DriverOf → Type 0 = λ l. IsDriven library top l in
    subst S (ap (λ (cs : List (List ℕ)). map (driver_from cs) c.in-Some.stored.items)
    (sym c.requires.columns) ∙ sym c.new.ensures) driven

pub returns-in-None-clause-refused : goal.returns-in-None-clause-refused
returns-in-None-clause-refused c =
    let library = c.args.hierarchy.now.0 in
    let top = c.args.hierarchy.now.1 in
    let filled = c.in_ok-table.ensures.filled in
    let P : List (Option StoredDriver) × Option ℕ → Type 0 =
    λ v. IsTable library top v.0 v.1 (drivings library top) in
    let Q : Option ℕ → Type 0 = λ b. IsTable library top c.table.inside.slots.items b
    (drivings library top) in
    let kept = map (option_map (driver_from (all_columns library))) c.table.inside.slots.items in
    let once = subst Q (none_known c.table.inside.twice (sym c.is_some.ensures
    ∙ c.if-is_some.false)) (subst P (sym c.table.view_is) filled) in
    let (s, inside, free) = rw c.in-None.is at c.in_ok-stored.ensures in
    inr (inr (
      c.of-in-None.ensures,
      not_driven_twice library top kept once,
      undriven library top kept s once
          (omega (
            arith,
            inside,
            length-map c.table.inside.slots.items
                (option_map (driver_from (all_columns library))),
          ))
          (slot_empty (all_columns library) c.table.inside.slots.items s inside free),
    ))

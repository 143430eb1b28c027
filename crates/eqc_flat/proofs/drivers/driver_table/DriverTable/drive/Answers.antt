use Rattle.std.proofs.Common.{◌<◌, ◌∙◌, sym, ap, subst, arith, ℕ, List, Option, length}
use Rattle.eqc_hierarchy.specs.Columns.{all_columns}
use Rattle.eqc_netlist.specs.declared.drivers.stored_driver.StoredDriver.{StoredDriver}
use Rattle.eqc_flat.specs.DriverTable.{IsTable}
use Rattle.eqc_flat.proofs.DrivingLaws.{drive_taken, drive_free}
use Rattle.eqc_flat.proofs.drivers.driver_table.DriverTable.drive.Goals as goal

pub returns-then-is_some-clause-step : goal.returns-then-is_some-clause-step
returns-then-is_some-clause-step c = λ library top done d h target source small.
    let P : List (Option StoredDriver) × Option ℕ → Type 0 = λ v. IsTable library top v.0 v.1 done
    in
    let inside : c.args.signal < length c.self.inside.slots.items =
    omega (
      arith,
      c.requires,
      ap (λ (v : List (Option StoredDriver) × Option ℕ). length v.0)
          c.self.view_is,
    ) in
    rw c.or-self-inside.ensures
    (drive_taken library top (all_columns library) c.self.inside.slots.items c.self.inside.twice
    done c.args.signal c.index.result.now d
    (subst P (sym c.self.view_is) h) inside c.index.ensures (sym c.is_some.ensures
    ∙ c.if-is_some.true) target)

pub returns-else-is_some-clause-step : goal.returns-else-is_some-clause-step
returns-else-is_some-clause-step c = λ library top done d h target source small.
    let P : List (Option StoredDriver) × Option ℕ → Type 0 = λ v. IsTable library top v.0 v.1 done
    in
    let inside : c.args.signal < length c.self.inside.slots.items =
    omega (
      arith,
      c.requires,
      ap (λ (v : List (Option StoredDriver) × Option ℕ). length v.0)
          c.self.view_is,
    ) in
    drive_free library top (all_columns library) c.self.inside.slots.items c.self.inside.twice done
    c.args.signal c.index.result.now
    c.args.driver d (subst P (sym c.self.view_is) h) inside c.index.ensures (sym c.is_some.ensures
    ∙ c.if-is_some.false) target source
    small

use Rattle.std.proofs.Common.{◌≡◌, ◌∙◌, ◌++◌, ◌∷◌, [], arith, ap, map, replicate, ℕ, List, Option}
use Rattle.std.proofs.Common.{None}
use Rattle.std.proofs.lemmas.List.{replicate_more}
use Rattle.eqc_netlist.specs.declared.drivers.stored_driver.StoredDriver.{StoredDriver}
use Rattle.std.specs.Option.{option_map}
use Rattle.eqc_netlist.specs.Graph.{DriverOf}
use Rattle.eqc_hierarchy.specs.Columns.{all_columns}
use Rattle.eqc_netlist.specs.StoredDrivers.{driver_from}
use Rattle.eqc_flat.proofs.DriverTableLaws.{filled_none}
use Rattle.eqc_flat.proofs.DrivingLaws.{none_mapped}
use Rattle.eqc_flat.proofs.drivers.driver_table.DriverTable.new.Goals as goal

pub returns : goal.returns
returns c = λ library top e.
    let count : c.loop-k._k ≡ c.args.count = omega (
      arith,
      c.loop-k-test.false,
      c.loop-k.auto._k-end,
    ) in
    let columns = all_columns library in
    let slots : map (option_map (driver_from columns)) c.loop-k.slots.items ≡ replicate {A =
    Option DriverOf} c.args.count None =
    ap (map (option_map (driver_from columns))) c.loop-k.invariant
    ∙ (none_mapped columns c.loop-k._k ∙ ap (λ (n : ℕ). replicate {A = Option DriverOf} n None)
    count) in
    rw slots (filled_none library top c.args.count e)

pub loop-k-preserved : goal.loop-k-preserved
loop-k-preserved c = c.in_ok-push.ensures.items
    ∙ (ap (λ (l : List (Option StoredDriver)). l ++ None ∷ []) c.loop-k.invariant
    ∙ replicate_more c.loop-k._k None)

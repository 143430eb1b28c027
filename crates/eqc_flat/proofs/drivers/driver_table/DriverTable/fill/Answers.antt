use Rattle.std.proofs.Common.{arith, ◌≡◌, ◌<◌, ◌+◌, ◌++◌, ◌∙◌, sym, ap, subst, [], ℕ, List, map}
use Rattle.std.proofs.Common.{take, length}
use Rattle.std.specs.List.{flat_map, enumerate_from}
use Rattle.std.specs.Option.{option_map}
use Rattle.eqc_hierarchy.specs.Columns.{all_columns}
use Rattle.eqc_netlist.specs.StoredDrivers.{driver_from}
use Rattle.std.proofs.lemmas.List.{append_assoc, take_all}
use Rattle.eqc_blif.specs.Netlist.{ModelOf}
use Rattle.eqc_hierarchy.specs.Hierarchy.{model, callees, model_at, paths}
use Rattle.eqc_hierarchy.specs.Signals.{Driving, input_drivings, cover_driving, instance_drivings}
use Rattle.eqc_hierarchy.specs.Signals.{drivings_at}
use Rattle.eqc_flat.specs.Flattened.{path_at, model_of}
use Rattle.eqc_flat.specs.Instances.{first_below}
use Rattle.eqc_flat.specs.DriverTable.{IsTable}
use Rattle.eqc_flat.proofs.InstanceLaws.{first_next, first_bound}
use Rattle.eqc_flat.proofs.DriverTableLaws.{filled_pieces}
use Rattle.eqc_hierarchy.proofs.NamingLaws.{callee_count}
use Rattle.eqc_flat.proofs.DrivingLaws.{piece_more, drivings_all}
use Rattle.eqc_flat.proofs.drivers.driver_table.DriverTable.fill.Goals as goal

pub overflow_add-first : goal.overflow_add-first
overflow_add-first c =
    let library = c.args.hierarchy.now.0 in
    let top = c.args.hierarchy.now.1 in
    let count : length c.instances.result.now
    ≡ length (callees library (model_at library top (path_at library top c.loop-i.i))) =
    ap length
    (c.instances.ensures
    ∙ (ap (λ (l : List ModelOf). (model l c.model.result).instances) c.library.ensures
    ∙ ap (λ (m : ℕ). (model library m).instances) c.model.ensures.number))
    ∙ sym (callee_count library (model_at library top (path_at library top c.loop-i.i))) in
    let most = first_bound library top c.loop-i.i c.model.ensures.growing
    (omega (arith, c.loop-i-test.true, c.instances-i-end.ensures.count)) in
    omega (arith, most, count, c.loop-i.invariant.first, c.model.ensures.few)

pub loop-i-preserved : goal.loop-i-preserved
loop-i-preserved c =
    let library = c.args.hierarchy.now.0 in
    let top = c.args.hierarchy.now.1 in
    let i = c.loop-i.i in
    let inside : i < length (paths library top) =
    omega (arith, c.loop-i-test.true, c.instances-i-end.ensures.count) in
    let count : length c.instances.result.now
    ≡ length (callees library (model_at library top (path_at library top i))) =
    ap length
    (c.instances.ensures
    ∙ (ap (λ (l : List ModelOf). (model l c.model.result).instances) c.library.ensures
    ∙ ap (λ (m : ℕ). (model library m).instances) c.model.ensures.number))
    ∙ sym (callee_count library (model_at library top (path_at library top i))) in
    let inputs = input_drivings (enumerate_from 0 (model library top).inputs) in
    let before = inputs ++ flat_map (drivings_at library top) (take i (paths library top)) in
    let covers = map (cover_driving (path_at library top i)) (model_of library top i).covers in
    let pairs = flat_map (instance_drivings library top (path_at library top i))
    (enumerate_from 0 (model_of library top i).instances) in
    record {
      size = c.fill_below.ensures.size ∙ (c.fill_covers.ensures.size ∙ c.loop-i.invariant.size);
      first = ap (λ (n : ℕ). n + length c.instances.result.now) c.loop-i.invariant.first
          ∙ (ap (λ (n : ℕ). first_below library top i + n) count
          ∙ sym (first_next library top i inside));
      step = λ done h.
          let P : List Driving → Type 0 = λ l. IsTable library top c.fill_below.new.self.0
          c.fill_below.new.self.1 l in
          let whole : ((done ++ before) ++ covers) ++ pairs ≡ done
          ++ (inputs ++ flat_map (drivings_at library top) (take (i + 1) (paths library top))) =
          append_assoc (done ++ before) covers pairs
          ∙ (append_assoc done before (covers ++ pairs)
          ∙ ap (λ (l : List Driving). done ++ l)
          (sym (piece_more (drivings_at library top) inputs (paths library top) i [] inside))) in
          subst P whole (c.fill_below.ensures.step ((done ++ before) ++ covers)
          (c.fill_covers.ensures.step (done ++ before) (c.loop-i.invariant.step done h)));
    }

pub returns : goal.returns
returns c = λ h.
    let library = c.args.hierarchy.now.0 in
    let top = c.args.hierarchy.now.1 in
    let P : List Driving → Type 0 = λ l. IsTable library top c.loop-i.self.0 c.loop-i.self.1 l in
    subst P (drivings_all library top c.loop-i.i (omega (
      arith,
      c.loop-i-test.false,
      c.instances-i-end.ensures.count,
    ))) (c.loop-i.invariant.step [] h)

pub returns-then-is_driven_twice : goal.returns-then-is_driven_twice
returns-then-is_driven_twice c = λ h.
    let library = c.args.hierarchy.now.0 in
    let top = c.args.hierarchy.now.1 in
    let P : List Driving → Type 0 = λ l. IsTable library top c.loop-i.self.0 c.loop-i.self.1 l in
    subst P (drivings_all library top (length (paths library top)) (omega arith))
    (let Q : List (List ℕ) → Type 0 = λ ps.
    IsTable library top c.loop-i.self.0 c.loop-i.self.1
    (input_drivings (enumerate_from 0 (model library top).inputs)
    ++ flat_map (drivings_at library top) ps) in
    subst Q (sym (take_all (length (paths library top)) (paths library top) (omega arith)))
    (filled_pieces library top (map (option_map (driver_from (all_columns library)))
    c.loop-i.self.0) c.loop-i.self.1
    (drivings_at library top) (input_drivings (enumerate_from 0 (model library top).inputs))
    (paths library top) c.loop-i.i
    (sym c.is_driven_twice.ensures ∙ c.if-is_driven_twice.true) (c.loop-i.invariant.step [] h)))

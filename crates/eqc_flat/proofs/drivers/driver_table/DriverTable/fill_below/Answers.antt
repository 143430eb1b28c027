use Rattle.std.proofs.Common.{arith, ◌≡◌, ◌<◌, ◌+◌, ◌++◌, ◌∷◌, ◌∙◌, sym, ap, subst, [], ℕ, List}
use Rattle.std.proofs.Common.{map, take, length, get_or}
use Rattle.std.specs.List.{flat_map, enumerate_from}
use Rattle.std.proofs.lemmas.List.{get_or_default, take_all}
use Rattle.std.proofs.lemmas.List.FromFn.{length-enumerate_from}
use Rattle.eqc_blif.specs.Netlist.{ModelOf, InstanceOf}
use Rattle.eqc_netlist.specs.Names.{is_named}
use Rattle.eqc_hierarchy.specs.Hierarchy.{model, callees, model_at}
use Rattle.eqc_hierarchy.specs.Signals.{Driving, names_of, pair_driving, instance_drivings}
use Rattle.eqc_flat.specs.Flattened.{path_at, model_of}
use Rattle.eqc_flat.specs.Instances.{first_below}
use Rattle.eqc_flat.specs.DriverTable.{IsTable}
use Rattle.eqc_flat.proofs.InstanceLaws.{next_path, next_inside, next_model}
use Rattle.eqc_hierarchy.proofs.NamingLaws.{no_instance, callee_count, formal_named, actual_named}
use Rattle.eqc_flat.proofs.ExpandedLaws.{formal_known}
use Rattle.eqc_flat.proofs.DrivingLaws.{piece_more, instance_at}
use Rattle.eqc_flat.proofs.drivers.driver_table.DriverTable.fill_below.Goals as goal

pub overflow_add-first : goal.overflow_add-first
overflow_add-first c =
    let library = c.args.hierarchy.now.0 in
    let top = c.args.hierarchy.now.1 in
    let here = model_of library top c.args.i in
    let path = path_at library top c.args.i in
    let insts : c.instances-instances.result.now ≡ here.instances =
    c.instances-instances.ensures
    ∙ (ap (λ (l : List ModelOf). (model l c.model.result).instances) c.library.ensures
    ∙ ap (λ (m : ℕ). (model library m).instances) c.model.ensures.number) in
    let q = c.args.first + c.loop-p.p in
    let at : q ≡ first_below library top c.args.i + c.loop-p.p =
    ap (λ (n : ℕ). n + c.loop-p.p) c.requires.first in
    let inside : c.loop-p.p < length here.instances =
    omega (arith, c.loop-p-test.true, ap length insts) in
    let called : c.loop-p.p < length (callees library (model_at library top path)) =
    omega (arith, inside, callee_count library (model_at library top path)) in
    let most = next_inside library top q c.args.i c.loop-p.p c.model.ensures.growing at
    c.requires.instance called in
    omega (arith, most, c.model.ensures.few)

pub fill_pairs-requires-clause-child : goal.fill_pairs-requires-clause-child
fill_pairs-requires-clause-child c =
    let library = c.args.hierarchy.now.0 in
    let top = c.args.hierarchy.now.1 in
    let here = model_of library top c.args.i in
    let path = path_at library top c.args.i in
    let insts : c.instances-instances.result.now ≡ here.instances =
    c.instances-instances.ensures
    ∙ (ap (λ (l : List ModelOf). (model l c.model.result).instances) c.library.ensures
    ∙ ap (λ (m : ℕ). (model library m).instances) c.model.ensures.number) in
    let q = c.args.first + c.loop-p.p in
    let at : q ≡ first_below library top c.args.i + c.loop-p.p =
    ap (λ (n : ℕ). n + c.loop-p.p) c.requires.first in
    let inside : c.loop-p.p < length here.instances =
    omega (arith, c.loop-p-test.true, ap length insts) in
    let called : c.loop-p.p < length (callees library (model_at library top path)) =
    omega (arith, inside, callee_count library (model_at library top path)) in
    next_inside library top q c.args.i c.loop-p.p c.model.ensures.growing at c.requires.instance
    called

pub fill_pairs-requires-clause-below : goal.fill_pairs-requires-clause-below
fill_pairs-requires-clause-below c =
    let library = c.args.hierarchy.now.0 in
    let top = c.args.hierarchy.now.1 in
    let here = model_of library top c.args.i in
    let path = path_at library top c.args.i in
    let insts : c.instances-instances.result.now ≡ here.instances =
    c.instances-instances.ensures
    ∙ (ap (λ (l : List ModelOf). (model l c.model.result).instances) c.library.ensures
    ∙ ap (λ (m : ℕ). (model library m).instances) c.model.ensures.number) in
    let q = c.args.first + c.loop-p.p in
    let at : q ≡ first_below library top c.args.i + c.loop-p.p =
    ap (λ (n : ℕ). n + c.loop-p.p) c.requires.first in
    let inside : c.loop-p.p < length here.instances =
    omega (arith, c.loop-p-test.true, ap length insts) in
    let called : c.loop-p.p < length (callees library (model_at library top path)) =
    omega (arith, inside, callee_count library (model_at library top path)) in
    next_path library top q c.args.i c.loop-p.p c.model.ensures.growing at c.requires.instance
    called

pub fill_pairs-requires-clause-formals : goal.fill_pairs-requires-clause-formals
fill_pairs-requires-clause-formals c = λ j h.
    let library = c.args.hierarchy.now.0 in
    let top = c.args.hierarchy.now.1 in
    let here = model_of library top c.args.i in
    let path = path_at library top c.args.i in
    let insts : c.instances-instances.result.now ≡ here.instances =
    c.instances-instances.ensures
    ∙ (ap (λ (l : List ModelOf). (model l c.model.result).instances) c.library.ensures
    ∙ ap (λ (m : ℕ). (model library m).instances) c.model.ensures.number) in
    let q = c.args.first + c.loop-p.p in
    let at : q ≡ first_below library top c.args.i + c.loop-p.p =
    ap (λ (n : ℕ). n + c.loop-p.p) c.requires.first in
    let inside : c.loop-p.p < length here.instances =
    omega (arith, c.loop-p-test.true, ap length insts) in
    let called : c.loop-p.p < length (callees library (model_at library top path)) =
    omega (arith, inside, callee_count library (model_at library top path)) in
    let one : c.index-instances-p.result ≡ get_or here.instances c.loop-p.p no_instance =
    c.index-instances-p.is
    ∙ (get_or_default c.instances-instances.result.now c.loop-p.p c.index-instances-p.result
    no_instance c.loop-p-test.true
    ∙ ap (λ (xs : List InstanceOf). get_or xs c.loop-p.p no_instance) insts) in
    let pairs : c.as_slice.result.now ≡ (get_or here.instances c.loop-p.p no_instance).pairs =
    c.as_slice.ensures.value ∙ (ap (λ (o : InstanceOf). o.pairs) c.instance.view_is
    ∙ ap (λ (o : InstanceOf). o.pairs) one) in
    let known =
    formal_known library top c.args.i c.loop-p.p j c.requires.known c.requires.instance inside
    (omega (arith, h, ap length pairs))
    (model_at library top (path_at library top q))
    (next_model library top q c.args.i c.loop-p.p c.model.ensures.growing at c.requires.instance
    called) in
    ap (λ (xs : List (List ℕ × List ℕ)). is_named (names_of (model_of library top q))
    (get_or xs j ([], [])).0) pairs
    ∙ formal_named (model_of library top q)
    (get_or (get_or here.instances c.loop-p.p no_instance).pairs j ([], [])).0 known

pub fill_pairs-requires-clause-actuals : goal.fill_pairs-requires-clause-actuals
fill_pairs-requires-clause-actuals c = λ j h.
    let library = c.args.hierarchy.now.0 in
    let top = c.args.hierarchy.now.1 in
    let here = model_of library top c.args.i in
    let path = path_at library top c.args.i in
    let insts : c.instances-instances.result.now ≡ here.instances =
    c.instances-instances.ensures
    ∙ (ap (λ (l : List ModelOf). (model l c.model.result).instances) c.library.ensures
    ∙ ap (λ (m : ℕ). (model library m).instances) c.model.ensures.number) in
    let q = c.args.first + c.loop-p.p in
    let at : q ≡ first_below library top c.args.i + c.loop-p.p =
    ap (λ (n : ℕ). n + c.loop-p.p) c.requires.first in
    let inside : c.loop-p.p < length here.instances =
    omega (arith, c.loop-p-test.true, ap length insts) in
    let called : c.loop-p.p < length (callees library (model_at library top path)) =
    omega (arith, inside, callee_count library (model_at library top path)) in
    let one : c.index-instances-p.result ≡ get_or here.instances c.loop-p.p no_instance =
    c.index-instances-p.is
    ∙ (get_or_default c.instances-instances.result.now c.loop-p.p c.index-instances-p.result
    no_instance c.loop-p-test.true
    ∙ ap (λ (xs : List InstanceOf). get_or xs c.loop-p.p no_instance) insts) in
    let pairs : c.as_slice.result.now ≡ (get_or here.instances c.loop-p.p no_instance).pairs =
    c.as_slice.ensures.value ∙ (ap (λ (o : InstanceOf). o.pairs) c.instance.view_is
    ∙ ap (λ (o : InstanceOf). o.pairs) one) in
    ap (λ (xs : List (List ℕ × List ℕ)). is_named (names_of here) (get_or xs j ([], [])).1) pairs
    ∙ actual_named here c.loop-p.p j inside (omega (arith, h, ap length pairs))

pub loop-p-preserved : goal.loop-p-preserved
loop-p-preserved c =
    let library = c.args.hierarchy.now.0 in
    let top = c.args.hierarchy.now.1 in
    let here = model_of library top c.args.i in
    let path = path_at library top c.args.i in
    let insts : c.instances-instances.result.now ≡ here.instances =
    c.instances-instances.ensures
    ∙ (ap (λ (l : List ModelOf). (model l c.model.result).instances) c.library.ensures
    ∙ ap (λ (m : ℕ). (model library m).instances) c.model.ensures.number) in
    let q = c.args.first + c.loop-p.p in
    let at : q ≡ first_below library top c.args.i + c.loop-p.p =
    ap (λ (n : ℕ). n + c.loop-p.p) c.requires.first in
    let inside : c.loop-p.p < length here.instances =
    omega (arith, c.loop-p-test.true, ap length insts) in
    let called : c.loop-p.p < length (callees library (model_at library top path)) =
    omega (arith, inside, callee_count library (model_at library top path)) in
    let one = c.index-instances-p.result in
    let read : one ≡ get_or here.instances c.loop-p.p one = c.index-instances-p.is
    ∙ ap (λ (xs : List InstanceOf). get_or xs c.loop-p.p one) insts in
    let pairs : c.as_slice.result.now ≡ one.pairs = c.as_slice.ensures.value
    ∙ ap (λ (o : InstanceOf). o.pairs) c.instance.view_is in
    let f = instance_drivings library top path in
    let all = enumerate_from 0 here.instances in
    let piece : f (get_or all c.loop-p.p (0, no_instance))
    ≡ map (pair_driving path c.loop-p.p (model_of library top q)) c.as_slice.result.now =
    ap f (instance_at here.instances c.loop-p.p one inside read)
    ∙ (ap (λ (ps : List (List ℕ × List ℕ)). map (pair_driving path c.loop-p.p
    (model library (model_at library top (c.loop-p.p ∷ path)))) ps) (sym pairs)
    ∙ ap (λ (x : List ℕ). map (pair_driving path c.loop-p.p
    (model library (model_at library top x))) c.as_slice.result.now)
    (sym (next_path library top q c.args.i c.loop-p.p c.model.ensures.growing at c.requires.instance
    called))) in
    record {
      size = c.fill_pairs.ensures.size ∙ c.loop-p.invariant.size;
      step = λ done h.
          let P : List Driving → Type 0 = λ l. IsTable library top c.fill_pairs.new.self.0
          c.fill_pairs.new.self.1 l in
          subst P
          (sym (piece_more f done all c.loop-p.p (0, no_instance)
          (omega (arith, length-enumerate_from 0 here.instances, inside))
          ∙ ap (λ (l : List Driving). (done ++ flat_map f (take c.loop-p.p all)) ++ l) piece))
          (c.fill_pairs.ensures.step (done ++ flat_map f (take c.loop-p.p all))
          (c.loop-p.invariant.step done h));
    }

pub returns-clause-step : goal.returns-clause-step
returns-clause-step c = λ done h.
    let library = c.args.hierarchy.now.0 in
    let top = c.args.hierarchy.now.1 in
    let here = model_of library top c.args.i in
    let path = path_at library top c.args.i in
    let insts : c.instances-instances.result.now ≡ here.instances =
    c.instances-instances.ensures
    ∙ (ap (λ (l : List ModelOf). (model l c.model.result).instances) c.library.ensures
    ∙ ap (λ (m : ℕ). (model library m).instances) c.model.ensures.number) in
    let all = enumerate_from 0 here.instances in
    let P : List (ℕ × InstanceOf) → Type 0 = λ l. IsTable library top c.loop-p.self.0
    c.loop-p.self.1 (done ++ flat_map (instance_drivings library top path) l) in
    subst P (take_all c.loop-p.p all (omega (
      arith,
      length-enumerate_from 0 here.instances,
      ap length insts,
      c.loop-p-test.false,
    ))) (c.loop-p.invariant.step done h)

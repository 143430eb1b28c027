use Rattle.std.proofs.Common.{arith, ◌≡◌, ◌<◌, ◌+◌, ◌++◌, ◌∷◌, ◌∙◌, sym, ap, subst, [], ℕ, List}
use Rattle.std.proofs.Common.{map, take, length, get_or, Option}
use Rattle.std.proofs.lemmas.List.{get_or_default, length-map}
use Rattle.eqc_netlist.specs.Names.{is_named}
use Rattle.eqc_netlist.specs.declared.drivers.stored_driver.StoredDriver.{StoredDriver}
use Rattle.eqc_hierarchy.specs.Signals.{Driving, from_signal, names_of, pair_driving}
use Rattle.eqc_flat.specs.Flattened.{path_at, model_of, signal_at}
use Rattle.eqc_flat.specs.DriverTable.{IsTable}
use Rattle.eqc_flat.proofs.DrivingLaws.{no_driving, behind_more, behind_all, pair_at, pair_input}
use Rattle.eqc_flat.proofs.DrivingLaws.{pair_output}
use Rattle.eqc_flat.proofs.drivers.driver_table.DriverTable.fill_pairs.Goals as goal
use Rattle.eqc_flat.proofs.drivers.driver_table.DriverTable.fill_pairs.Goals.{then-is_input}
use Rattle.eqc_flat.proofs.drivers.driver_table.DriverTable.fill_pairs.Goals.{else-is_input}

pub formal-inner-requires-clause-named : goal.formal-inner-requires-clause-named
formal-inner-requires-clause-named c =
    let pair = c.index-pairs-j.is ∙ get_or_default c.args.pairs.now c.loop-j.j
    c.index-pairs-j.result ([], []) c.loop-j-test.true in
    ap (is_named (names_of (model_of c.args.hierarchy.now.0 c.args.hierarchy.now.1 c.args.child)))
    (c.as_bytes.ensures ∙ ap (λ (p : List ℕ × List ℕ). p.0) pair)
    ∙ c.requires.formals c.loop-j.j c.loop-j-test.true

pub signal-outer-requires-clause-named : goal.signal-outer-requires-clause-named
signal-outer-requires-clause-named c =
    let pair = c.index-pairs-j.is ∙ get_or_default c.args.pairs.now c.loop-j.j
    c.index-pairs-j.result ([], []) c.loop-j-test.true in
    ap (is_named (names_of (model_of c.args.hierarchy.now.0 c.args.hierarchy.now.1 c.args.i)))
    (c.as_bytes-in-loop-j.ensures ∙ ap (λ (p : List ℕ × List ℕ). p.1) pair)
    ∙ c.requires.actuals c.loop-j.j c.loop-j-test.true

pub overflow_cast-outer : goal.overflow_cast-outer
overflow_cast-outer c = omega (arith, c.signal-outer.ensures.small)

pub overflow_cast-inner : goal.overflow_cast-inner
overflow_cast-inner c = omega (arith, c.formal-inner.ensures.small)

pub loop-j-preserved : goal.loop-j-preserved
loop-j-preserved c =
    let library = c.args.hierarchy.now.0 in
    let top = c.args.hierarchy.now.1 in
    let callee = model_of library top c.args.child in
    let path = path_at library top c.args.i in
    let pair = c.index-pairs-j.result in
    let all = map (pair_driving path c.args.p callee) c.args.pairs.now in
    let inside : c.loop-j.j < length all =
    omega (
      arith,
      length-map c.args.pairs.now (pair_driving path c.args.p callee),
      c.loop-j-test.true,
    ) in
    let driving = pair_at path c.args.p callee c.args.pairs.now c.loop-j.j pair c.loop-j-test.true
    c.index-pairs-j.is in
    let inner : signal_at library top c.formal-inner.result.0 ≡ record {
      path = c.args.p ∷ path;
      name = pair.0;
    } =
    c.formal-inner.ensures.signal
    ∙ (ap (λ (x : List ℕ). record { path = path_at library top c.args.child; name = x })
    c.as_bytes.ensures
    ∙ ap (λ (x : List ℕ). record { path = x; name = pair.0 }) c.requires.below) in
    let outer : signal_at library top c.signal-outer.result ≡ record {
      path = path;
      name =
          pair.1;
    } =
    c.signal-outer.ensures.signal ∙ ap (λ (x : List ℕ). record { path = path; name = x })
    c.as_bytes-in-loop-j.ensures in
    let is : c.formal-inner.result.1 ≡ is_named callee.inputs pair.0 = c.formal-inner.ensures.input
    ∙ ap (is_named callee.inputs) c.as_bytes.ensures in
    let more = λ (done : List Driving). behind_more done all c.loop-j.j no_driving inside in
    elim c.if-is_input.branch [
      | then-is_input w ↦
          let d = driving ∙ pair_input path c.args.p callee pair (sym is ∙ w.if-is_input.true) in
          let P : List (Option StoredDriver) × Option ℕ → Type 0 = λ v.
          (length v.0 ≡ length c.args.self.now.0)
          × ((done : List Driving) → IsTable library top c.args.self.now.0 c.args.self.now.1 done
          → IsTable library top v.0 v.1 (done ++ take (c.loop-j.j + 1) all)) in
          let both = subst P (sym w.self-is) (
            w.drive.ensures.size ∙ c.loop-j.invariant.size,
            λ done h.
                let Q : List Driving → Type 0 = λ l. IsTable library top w.drive.new.self.0
                w.drive.new.self.1 l in
                subst Q (sym (more done))
                (w.drive.ensures.step library top (done ++ take c.loop-j.j all)
                (get_or all c.loop-j.j no_driving)
                (c.loop-j.invariant.step done h) (ap (λ (d : Driving). d.0) d ∙ sym inner)
                (ap (λ (d : Driving). d.1) d ∙ ap from_signal (sym outer))
                c.signal-outer.ensures.within),
          ) in
          record { size = both.0; step = both.1 }
      | else-is_input w ↦
          let d = driving ∙ pair_output path c.args.p callee pair (sym is ∙ w.if-is_input.false) in
          let P : List (Option StoredDriver) × Option ℕ → Type 0 = λ v.
          (length v.0 ≡ length c.args.self.now.0)
          × ((done : List Driving) → IsTable library top c.args.self.now.0 c.args.self.now.1 done
          → IsTable library top v.0 v.1 (done ++ take (c.loop-j.j + 1) all)) in
          let both = subst P (sym w.self-is) (
            w.drive-else-is_input.ensures.size ∙ c.loop-j.invariant.size,
            λ done h.
                let Q : List Driving → Type 0 =
                λ l. IsTable library top w.drive-else-is_input.new.self.0
                w.drive-else-is_input.new.self.1 l in
                subst Q (sym (more done))
                (w.drive-else-is_input.ensures.step library top (done ++ take c.loop-j.j all)
                (get_or all c.loop-j.j no_driving)
                (c.loop-j.invariant.step done h) (ap (λ (d : Driving). d.0) d ∙ sym outer)
                (ap (λ (d : Driving). d.1) d ∙ ap from_signal (sym inner))
                c.formal-inner.ensures.within),
          ) in
          record { size = both.0; step = both.1 }
    ]

pub returns-clause-step : goal.returns-clause-step
returns-clause-step c = λ done h.
    let library = c.args.hierarchy.now.0 in
    let top = c.args.hierarchy.now.1 in
    let all = map (pair_driving (path_at library top c.args.i) c.args.p
    (model_of library top c.args.child)) c.args.pairs.now in
    let P : List Driving → Type 0 = λ l. IsTable library top c.loop-j.self.0 c.loop-j.self.1 l in
    subst P
    (behind_all done all c.loop-j.j
    (omega (
      arith,
      length-map c.args.pairs.now (pair_driving (path_at library top c.args.i) c.args.p
          (model_of library top c.args.child)),
      c.loop-j-test.false,
    ))) (c.loop-j.invariant.step done h)

use Rattle.std.proofs.Common.{arith, ◌≡◌, ◌<◌, ◌++◌, ◌∙◌, sym, ap, subst, [], ℕ, List, take, length}
use Rattle.std.proofs.Common.{get_or}
use Rattle.std.specs.List.{enumerate_from}
use Rattle.std.proofs.lemmas.List.{get_or_default}
use Rattle.eqc_blif.specs.Netlist.{ModelOf}
use Rattle.eqc_netlist.specs.Names.{is_named}
use Rattle.eqc_hierarchy.specs.Hierarchy.{model}
use Rattle.eqc_hierarchy.specs.Signals.{Driving, names_of, input_drivings}
use Rattle.eqc_flat.specs.Flattened.{signal_at}
use Rattle.eqc_flat.specs.DriverTable.{IsTable}
use Rattle.eqc_hierarchy.proofs.NamingLaws.{input_named}
use Rattle.eqc_flat.proofs.DrivingLaws.{no_driving, behind_more, behind_all, input_at, input_count}
use Rattle.eqc_flat.proofs.drivers.driver_table.DriverTable.fill_inputs.Goals as goal

pub signal-signal-requires-clause-instance : goal.signal-signal-requires-clause-instance
signal-signal-requires-clause-instance c = c.top.ensures.first

pub signal-signal-requires-clause-named : goal.signal-signal-requires-clause-named
signal-signal-requires-clause-named c =
    let main = model c.args.hierarchy.now.0 c.args.hierarchy.now.1 in
    let inputs : c.inputs-inputs.result.now ≡ main.inputs =
    c.inputs-inputs.ensures.names
    ∙ (ap (λ (n : ℕ). (model c.library.result.now n).inputs) c.top.ensures.top
    ∙ ap (λ (l : List ModelOf). (model l c.args.hierarchy.now.1).inputs) c.library.ensures) in
    let name : c.as_bytes.result.now ≡ get_or main.inputs c.loop-k.k [] =
    c.as_bytes.ensures
    ∙ (c.index-inputs-k.is
    ∙ (get_or_default c.inputs-inputs.result.now c.loop-k.k c.index-inputs-k.result []
    c.loop-k-test.true
    ∙ ap (λ (xs : List (List ℕ)). get_or xs c.loop-k.k []) inputs)) in
    ap (λ (m : ModelOf). is_named (names_of m) c.as_bytes.result.now) c.top.ensures.main
    ∙ (ap (is_named (names_of main)) name
    ∙ input_named main c.loop-k.k (omega (arith, c.loop-k-test.true, ap length inputs)))

pub loop-k-preserved : goal.loop-k-preserved
loop-k-preserved c =
    let library = c.args.hierarchy.now.0 in
    let top = c.args.hierarchy.now.1 in
    let main = model library top in
    let inputs : c.inputs-inputs.result.now ≡ main.inputs =
    c.inputs-inputs.ensures.names
    ∙ (ap (λ (n : ℕ). (model c.library.result.now n).inputs) c.top.ensures.top
    ∙ ap (λ (l : List ModelOf). (model l c.args.hierarchy.now.1).inputs) c.library.ensures) in
    let name : c.as_bytes.result.now ≡ get_or main.inputs c.loop-k.k [] =
    c.as_bytes.ensures
    ∙ (c.index-inputs-k.is
    ∙ (get_or_default c.inputs-inputs.result.now c.loop-k.k c.index-inputs-k.result []
    c.loop-k-test.true
    ∙ ap (λ (xs : List (List ℕ)). get_or xs c.loop-k.k []) inputs)) in
    let inside : c.loop-k.k < length main.inputs =
    omega (arith, c.loop-k-test.true, ap length inputs) in
    let all = input_drivings (enumerate_from 0 main.inputs) in
    let here = input_at main.inputs c.loop-k.k inside in
    let target : (get_or all c.loop-k.k no_driving).0 ≡ signal_at library top
    c.signal-signal.result =
    ap (λ (d : Driving). d.0) here
    ∙ (ap (λ (x : List ℕ). record { path = []; name = x }) (sym name)
    ∙ (ap (λ (p : List ℕ). record { path = p; name = c.as_bytes.result.now })
    (sym c.top.ensures.root)
    ∙ sym c.signal-signal.ensures.signal)) in
    record {
      size = c.drive.ensures.size ∙ c.loop-k.invariant.size;
      step = λ done h.
          let P : List Driving → Type 0 = λ l. IsTable library top c.drive.new.self.0
          c.drive.new.self.1 l in
          subst P (sym (behind_more done all c.loop-k.k no_driving
          (omega (arith, input_count main.inputs, inside))))
          (c.drive.ensures.step library top (done ++ take c.loop-k.k all) (get_or all c.loop-k.k
          no_driving) (c.loop-k.invariant.step done h) target (ap (λ (d : Driving). d.1) here)
          inside);
    }

pub returns-clause-step : goal.returns-clause-step
returns-clause-step c = λ done h.
    let library = c.args.hierarchy.now.0 in
    let top = c.args.hierarchy.now.1 in
    let main = model library top in
    let inputs : c.inputs-inputs.result.now ≡ main.inputs =
    c.inputs-inputs.ensures.names
    ∙ (ap (λ (n : ℕ). (model c.library.result.now n).inputs) c.top.ensures.top
    ∙ ap (λ (l : List ModelOf). (model l c.args.hierarchy.now.1).inputs) c.library.ensures) in
    let P : List Driving → Type 0 = λ l. IsTable library top c.loop-k.self.0 c.loop-k.self.1 l in
    subst P
    (behind_all done (input_drivings (enumerate_from 0 main.inputs)) c.loop-k.k
    (omega (arith, input_count main.inputs, ap length inputs, c.loop-k-test.false)))
    (c.loop-k.invariant.step done h)

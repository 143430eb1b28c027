use Rattle.std.proofs.Common.{arith, ◌≡◌, ◌+◌, ◌<◌, true, ◌++◌, ◌∙◌, sym, ap, subst, [], ℕ, List}
use Rattle.std.proofs.Common.{map, take, length, get_or}
use Rattle.std.proofs.lemmas.List.{get_or_default, length-map}
use Rattle.eqc_blif.specs.Netlist.{ModelOf, CoverOf, no_cover}
use Rattle.eqc_netlist.specs.Names.{is_named}
use Rattle.eqc_hierarchy.specs.Hierarchy.{model}
use Rattle.std.specs.Option.{option_map}
use Rattle.eqc_hierarchy.specs.Columns.{places_in, all_columns}
use Rattle.eqc_netlist.specs.StoredDrivers.{driver_from}
use Rattle.eqc_hierarchy.specs.Signals.{Driving, names_of, signals, cover_driving}
use Rattle.eqc_flat.specs.Flattened.{path_at, model_of, signal_at, signals_here}
use Rattle.eqc_flat.specs.RowTable.{all_rows}
use Rattle.eqc_flat.specs.DriverTable.{IsTable}
use Rattle.eqc_flat.proofs.DriverTableLaws.{filled_list}
use Rattle.eqc_hierarchy.proofs.NamingLaws.{column_named, driven_named}
use Rattle.eqc_flat.proofs.DrivingLaws.{no_driving, behind_more, behind_all, cover_at, cover_source}
use Rattle.eqc_flat.proofs.DrivingLaws.{covers_of, cover_there, column_signals, columns_inside}
use Rattle.eqc_flat.proofs.drivers.driver_table.DriverTable.fill_covers.Goals as goal

pub output_signal-signal-requires-clause-named : goal.output_signal-signal-requires-clause-named
output_signal-signal-requires-clause-named c =
    let here = model_of c.args.hierarchy.now.0 c.args.hierarchy.now.1 c.args.i in
    let covers =
    covers_of c.args.hierarchy.now.0 c.library.result.now c.args.hierarchy.now.1 c.args.i
    c.model-m.result c.covers-covers.result.now
    c.library.ensures c.model-m.ensures.number c.covers-covers.ensures in
    let one : c.index-covers-k.result ≡ get_or here.covers c.loop-k.k no_cover =
    c.index-covers-k.is
    ∙ (get_or_default c.covers-covers.result.now c.loop-k.k c.index-covers-k.result no_cover
    c.loop-k-test.true
    ∙ ap (λ (xs : List CoverOf). get_or xs c.loop-k.k no_cover) covers) in
    let name : c.as_bytes.result.now ≡ (get_or here.covers c.loop-k.k no_cover).output =
    c.as_bytes.ensures ∙ (ap (λ (o : CoverOf). o.output) c.one.view_is
    ∙ ap (λ (o : CoverOf). o.output) one) in
    ap (is_named (names_of here)) name
    ∙ driven_named here c.loop-k.k (omega (arith, c.loop-k-test.true, ap length covers))

pub number-cover-requires-clause-model : goal.number-cover-requires-clause-model
number-cover-requires-clause-model c =
    let cov : c.covers-covers.result.now ≡ (model c.args.rows.now c.model-m.result).covers =
    c.covers-covers.ensures
    ∙ (ap (λ (l : List ModelOf). (model l c.model-m.result).covers) c.library.ensures
    ∙ ap (λ (l : List ModelOf). (model l c.model-m.result).covers) (sym c.requires.same)) in
    cover_there c.args.rows.now c.model-m.result c.loop-k.k (omega (
      arith,
      c.loop-k-test.true,
      ap length cov,
    ))

pub number-cover-requires-clause-cover : goal.number-cover-requires-clause-cover
number-cover-requires-clause-cover c =
    let cov : c.covers-covers.result.now ≡ (model c.args.rows.now c.model-m.result).covers =
    c.covers-covers.ensures
    ∙ (ap (λ (l : List ModelOf). (model l c.model-m.result).covers) c.library.ensures
    ∙ ap (λ (l : List ModelOf). (model l c.model-m.result).covers) (sym c.requires.same)) in
    omega (arith, c.loop-k-test.true, ap length cov)

pub loop-k-preserved : goal.loop-k-preserved
loop-k-preserved c =
    let library = c.args.hierarchy.now.0 in
    let top = c.args.hierarchy.now.1 in
    let here = model_of library top c.args.i in
    let path = path_at library top c.args.i in
    let covers = covers_of library c.library.result.now top c.args.i c.model-m.result
    c.covers-covers.result.now c.library.ensures c.model-m.ensures.number
    c.covers-covers.ensures in
    let one = c.index-covers-k.result in
    let read : one ≡ get_or here.covers c.loop-k.k one = c.index-covers-k.is
    ∙ ap (λ (xs : List CoverOf). get_or xs c.loop-k.k one) covers in
    let inside : c.loop-k.k < length here.covers =
    omega (arith, c.loop-k-test.true, ap length covers) in
    let all = map (cover_driving path) here.covers in
    let driving = cover_at path here.covers c.loop-k.k one inside read in
    let name : c.as_bytes.result.now ≡ one.output = c.as_bytes.ensures
    ∙ ap (λ (o : CoverOf). o.output) c.one.view_is in
    let target : (get_or all c.loop-k.k no_driving).0 ≡ signal_at library top
    c.output_signal-signal.result =
    ap (λ (d : Driving). d.0) driving
    ∙ (ap (λ (x : List ℕ). record { path = path; name = x }) (sym name)
    ∙ sym c.output_signal-signal.ensures.signal) in
    let cov : c.covers-covers.result.now ≡ (model c.args.rows.now c.model-m.result).covers =
    c.covers-covers.ensures
    ∙ (ap (λ (l : List ModelOf). (model l c.model-m.result).covers) c.library.ensures
    ∙ ap (λ (l : List ModelOf). (model l c.model-m.result).covers) (sym c.requires.same)) in
    let default : (get_or (model c.args.rows.now c.model-m.result).covers c.loop-k.k no_cover)
    ≡ one =
    ap (λ (cs : List CoverOf). get_or cs c.loop-k.k no_cover) (sym cov)
    ∙ sym (c.index-covers-k.is ∙ get_or_default c.covers-covers.result.now c.loop-k.k one no_cover
    c.loop-k-test.true) in
    let number = c.number-cover.result in
    let rows : get_or (all_rows library) number [] ≡ one.rows =
    ap (λ (l : List ModelOf). get_or (all_rows l) number []) (sym c.requires.same)
    ∙ (c.number-cover.ensures.rows ∙ ap (λ (o : CoverOf). o.rows) default) in
    let few : number < length (all_rows library) = omega (
      arith,
      c.number-cover.ensures.within,
      ap (λ (l : List ModelOf). length (all_rows l)) c.requires.same,
    ) in
    let names : names_of (model c.args.rows.now c.model-m.result) ≡ names_of here =
    ap (λ (l : List ModelOf). names_of (model l c.model-m.result)) c.requires.same
    ∙ ap (λ (m : ℕ). names_of (model library m)) c.model-m.ensures.number in
    let places : get_or (all_columns library) number [] ≡ places_in (names_of here) one.columns =
    ap (λ (l : List ModelOf). get_or (all_columns l) number []) (sym c.requires.same)
    ∙ (c.number-cover.ensures.columns
    ∙ (ap (λ (o : CoverOf). places_in (names_of (model c.args.rows.now c.model-m.result)) o.columns)
    default
    ∙ ap (λ (ns : List (List ℕ)). places_in ns one.columns) names)) in
    let named : (j : ℕ) → j < length one.columns
    → is_named (names_of here) (get_or one.columns j []) ≡ true =
    λ j h.
    (let P : CoverOf → Type 0 = λ o. j < length o.columns
    → is_named (names_of here) (get_or o.columns j []) ≡ true in
    subst P (sym (read ∙ get_or_default here.covers c.loop-k.k one no_cover inside))
    (column_named here c.loop-k.k j inside) h) in
    let n = c.first_signal-first.result in
    let from = λ (p : ℕ). n + p in
    let made : map (signal_at library top) (map from (get_or (all_columns library) number []))
    ≡ signals_here library top c.args.i one.columns =
    ap (λ (ps : List ℕ). map (signal_at library top) (map from ps)) places
    ∙ column_signals library top c.args.i n one.columns c.requires.instance
    c.first_signal-first.ensures.first named in
    let Q : List ℕ → Type 0 = λ ps. (k : ℕ) → k < length (map from ps) → get_or (map from ps) k 0
    < length (signals library top) in
    let there : (k : ℕ) → k < length (map from (get_or (all_columns library) number []))
    → get_or (map from (get_or (all_columns library) number [])) k 0
    < length (signals library top) =
    subst Q (sym places) (columns_inside library top c.args.i n one.columns c.requires.instance
    c.first_signal-first.ensures.first named) in
    let source = ap (λ (d : Driving). d.1) driving ∙ cover_source library top c.args.i number
    (map from (get_or (all_columns library) number [])) one made rows in
    record {
      size = c.drive.ensures.size ∙ c.loop-k.invariant.size;
      step = λ done h.
          let P : List Driving → Type 0 = λ l. IsTable library top c.drive.new.self.0
          c.drive.new.self.1 l in
          subst P (sym (behind_more done all c.loop-k.k no_driving
          (omega (arith, length-map here.covers (cover_driving path), inside))))
          (c.drive.ensures.step library top (done ++ take c.loop-k.k all) (get_or all c.loop-k.k
          no_driving) (c.loop-k.invariant.step done h) target source (there, few));
    }

pub returns-clause-step : goal.returns-clause-step
returns-clause-step c = λ done h.
    let library = c.args.hierarchy.now.0 in
    let top = c.args.hierarchy.now.1 in
    let here = model_of library top c.args.i in
    let path = path_at library top c.args.i in
    let covers = covers_of library c.library.result.now top c.args.i c.model-m.result
    c.covers-covers.result.now c.library.ensures c.model-m.ensures.number
    c.covers-covers.ensures in
    let P : List Driving → Type 0 = λ l. IsTable library top c.loop-k.self.0 c.loop-k.self.1 l in
    subst P
    (behind_all done (map (cover_driving path) here.covers) c.loop-k.k
    (omega (
      arith,
      length-map here.covers (cover_driving path),
      ap length covers,
      c.loop-k-test.false,
    )))
    (c.loop-k.invariant.step done h)

pub returns-then-is_driven_twice-clause-step : goal.returns-then-is_driven_twice-clause-step
returns-then-is_driven_twice-clause-step c = λ done h.
    let library = c.args.hierarchy.now.0 in
    let top = c.args.hierarchy.now.1 in
    filled_list library top (map (option_map (driver_from (all_columns library))) c.loop-k.self.0)
    c.loop-k.self.1 done
    (map (cover_driving (path_at library top c.args.i)) (model_of library top c.args.i).covers)
    c.loop-k.k
    (sym c.is_driven_twice.ensures ∙ c.if-is_driven_twice.true) (c.loop-k.invariant.step done h)

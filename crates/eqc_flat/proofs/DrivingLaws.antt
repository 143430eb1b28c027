-- Drivings are gone through one by one.
use Rattle.std.proofs.Common.{◌≡◌, ℕ, zero, suc, ◌+◌, ◌<◌, ◌≤◌, inl, inr, true, false, List, []}
use Rattle.std.proofs.Common.{◌∷◌, ◌++◌, length, map, take, set, replicate, get_or, refl, sym, ◌∙◌}
use Rattle.std.proofs.Common.{ap, arith, Option, Some, None}
use Rattle.std.specs.Prelude.{slice_index_or, is_some}
use Rattle.std.specs.List.{flat_map, enumerate_from}
use Rattle.std.specs.Option.{option_map, option_or}
use Rattle.std.proofs.lemmas.List.{
  take_more,
  take_all,
  append_assoc,
  append-nil,
  get_or-map,
  get_or_default,
  length-map,
  length_push,
  get_or_push,
  get_or_append_left,
  get_or_past,
  map-append,
  map-set,
}
use Rattle.std.proofs.lemmas.List.FromFn.{get_or-enumerate_from, length-enumerate_from}
use Rattle.std.proofs.lemmas.Bool.{cases_lt, true≢false}
use Rattle.std.proofs.lemmas.Grind.{flat_map-append}
use Rattle.eqc_blif.specs.Netlist.{ModelOf, InstanceOf, CoverOf, no_model}
use Rattle.eqc_netlist.specs.Names.{is_named}
use Rattle.eqc_netlist.specs.Graph.{DriverOf, cover, IsWithinSizes}
use Rattle.eqc_hierarchy.specs.Hierarchy.{model, model_at, paths}
use Rattle.eqc_hierarchy.specs.Signals.{from_input, from_signal, from_cover, Driving, names_of}
use Rattle.eqc_hierarchy.specs.Signals.{signals, input_drivings, cover_driving, pair_driving}
use Rattle.eqc_hierarchy.specs.Signals.{instance_drivings, drivings_at, drivings}
use Rattle.eqc_flat.specs.Flattened.{path_at, model_of, first_signal, signal_at, signals_here}
use Rattle.eqc_flat.specs.Flattened.{source_of}
use Rattle.eqc_flat.specs.RowTable.{all_rows}
use Rattle.eqc_flat.specs.DriverTable.{IsFilled}
use Rattle.eqc_netlist.specs.NameSets.{place_in}
use Rattle.eqc_hierarchy.specs.Columns.{places_in}
use Rattle.eqc_netlist.specs.StoredDrivers.{driver_from}
use Rattle.eqc_netlist.specs.declared.drivers.stored_driver.StoredDriver.{StoredDriver}
use Rattle.eqc_flat.proofs.DriverTableLaws.{filled_free, filled_again}
use Rattle.eqc_hierarchy.proofs.NamingLaws.{no_instance, found_first, named_at}
use Rattle.eqc_flat.proofs.ExpandedLaws.{signal_is, signal_within}

abbrev pub no_driving : Driving
no_driving = (record { path = []; name = [] }, from_input 0)

-- one element more of a list behind another
pub behind_more : {X : Type 0} (done all : List X) (k : ℕ) (d : X) → k < length all
    → done ++ take (k + 1) all ≡ (done ++ take k all) ++ get_or all k d ∷ []
behind_more done all k d h = ap (λ xs. done ++ xs) (take_more all k d h)
    ∙ sym (append_assoc done (take k all) (get_or all k d ∷ []))

pub behind_all : {X : Type 0} (done all : List X) (k : ℕ) → length all ≤ k → done ++ take k all
    ≡ done ++ all
behind_all done all k h = ap (λ xs. done ++ xs) (take_all k all h)

-- one piece more behind others
pub piece_more : {X Y : Type 0} (f : X → List Y) (done : List Y) (xs : List X) (k : ℕ) (d : X)
    → k < length xs
    → done ++ flat_map f (take (k + 1) xs) ≡ (done ++ flat_map f (take k xs)) ++ f (get_or xs k d)
piece_more f done xs k d h =
    ap (λ ys. done ++ flat_map f ys) (take_more xs k d h)
    ∙ (ap (λ ys. done ++ ys) (flat_map-append f (take k xs) (get_or xs k d ∷ [])
    ∙ ap (λ ys. flat_map f (take k xs) ++ ys) (append-nil (f (get_or xs k d))))
    ∙ sym (append_assoc done (flat_map f (take k xs)) (f (get_or xs k d))))

-- the driving of an input
pub input_at : (inputs : List (List ℕ)) (k : ℕ) → k < length inputs
    → get_or (input_drivings (enumerate_from 0 inputs)) k no_driving
    ≡ (record { path = []; name = get_or inputs k [] }, from_input k)
input_at inputs k h =
    get_or-map (λ (input : ℕ × List ℕ). (record { path = []; name = input.1 }, from_input input.0))
    (enumerate_from 0 inputs) k (0, []) no_driving (rw length-enumerate_from h)
    ∙ (ap (λ (input : ℕ × List ℕ). (record { path = []; name = input.1 }, from_input input.0))
    (get_or-enumerate_from 0 inputs k (0, []) h)
    ∙ ap (λ n. (record { path = []; name = get_or inputs k [] }, from_input n)) (omega arith))

pub input_count : (inputs : List (List ℕ)) → length (input_drivings (enumerate_from 0 inputs))
    ≡ length inputs
input_count inputs = length-map (enumerate_from 0 inputs) (λ (input : ℕ
    × List ℕ). (record { path = []; name = input.1 }, from_input input.0))
    ∙ length-enumerate_from 0 inputs

-- the driving of a cover
pub cover_at : (path : List ℕ) (covers : List CoverOf) (k : ℕ) (one : CoverOf) → k < length covers
    → one ≡ get_or covers k one
    → get_or (map (cover_driving path) covers) k no_driving ≡ cover_driving path one
cover_at path covers k one h read = get_or-map (cover_driving path) covers k one no_driving h
    ∙ ap (cover_driving path) (sym read)

-- the source that a cover's driver stands for
pub cover_source : (library : List ModelOf) (top i r : ℕ) (columns : List ℕ) (one : CoverOf)
    → map (signal_at library top) columns ≡ signals_here library top i one.columns
    → slice_index_or (all_rows library) r [] ≡ one.rows
    → (cover_driving (path_at library top i) one).1 ≡ source_of (signal_at library top)
    (all_rows library) (cover columns r)
cover_source library top i r columns one is rows =
    sym (ap (λ cs. from_cover cs (slice_index_or (all_rows library) r [])) is
    ∙ ap (λ rs. from_cover (signals_here library top i one.columns) rs) rows)

-- the driving of a pair, by whether its formal is an input
pub pair_at : (path : List ℕ) (p : ℕ) (callee : ModelOf) (pairs : List (List ℕ × List ℕ)) (j : ℕ)
    (pair : List ℕ × List ℕ)
    → j < length pairs → pair ≡ get_or pairs j pair
    → get_or (map (pair_driving path p callee) pairs) j no_driving ≡ pair_driving path p callee pair
pair_at path p callee pairs j pair h read = get_or-map (pair_driving path p callee) pairs j pair
    no_driving h ∙ ap (pair_driving path p callee) (sym read)

pub pair_input : (path : List ℕ) (p : ℕ) (callee : ModelOf) (pair : List ℕ × List ℕ)
    → is_named callee.inputs pair.0 ≡ true
    → pair_driving path p callee pair ≡ (
      record { path = p ∷ path; name = pair.0 },
      from_signal (record { path = path; name = pair.1 }),
    )
pair_input path p callee pair e = rw e refl

pub pair_output : (path : List ℕ) (p : ℕ) (callee : ModelOf) (pair : List ℕ × List ℕ)
    → is_named callee.inputs pair.0 ≡ false
    → pair_driving path p callee pair ≡ (
      record { path = path; name = pair.1 },
      from_signal (record { path = p ∷ path; name = pair.0 }),
    )
pair_output path p callee pair e = rw e refl

-- the instance at a position, with its position
pub instance_at : (instances : List InstanceOf) (p : ℕ) (one : InstanceOf) → p < length instances
    → one ≡ get_or instances p one → get_or (enumerate_from 0 instances) p (0, no_instance)
    ≡ (p, one)
instance_at instances p one h read =
    get_or-enumerate_from 0 instances p (0, no_instance) h
    ∙ (ap (λ n. (n, get_or instances p no_instance)) (omega arith)
    ∙ ap (λ i. (p, i)) (get_or_default instances p no_instance one h ∙ sym read))

-- everything that an instance's covers and pairs drive
pub drivings_here : (library : List ModelOf) (top i : ℕ)
    → drivings_at library top (path_at library top i)
    ≡ map (cover_driving (path_at library top i)) (model_of library top i).covers
    ++ flat_map (instance_drivings library top (path_at library top i))
    (enumerate_from 0 (model_of library top i).instances)
drivings_here library top i = refl

-- every driving, once all instances were gone through
pub drivings_all : (library : List ModelOf) (top k : ℕ) → length (paths library top) ≤ k
    → input_drivings (enumerate_from 0 (model library top).inputs)
    ++ flat_map (drivings_at library top) (take k (paths library top))
    ≡ drivings library top
unfolding drivings
drivings_all library top k h =
    ap (λ ps. input_drivings (enumerate_from 0 (model library top).inputs)
    ++ flat_map (drivings_at library top) ps) (take_all k (paths library top) h)

-- signals of names, one more
pub signals_more : (library : List ModelOf) (top i j s : ℕ) (names : List (List ℕ))
    (all now : List ℕ) (name : List ℕ)
    → map (signal_at library top) all ≡ signals_here library top i (take j names) → j < length names
    → name ≡ get_or names j name
    → now ≡ all ++ s ∷ [] → signal_at library top s ≡ record {
      path = path_at library top i;
      name =
          name;
    }
    → map (signal_at library top) now ≡ signals_here library top i (take (j + 1) names)
signals_more library top i j s names all now name is h read grown here =
    ap (map (signal_at library top)) grown
    ∙ (map-append (signal_at library top) all (s ∷ [])
    ∙ (ap (λ xs. xs ++ signal_at library top s ∷ []) is
    ∙ (ap (λ x. signals_here library top i (take j names) ++ x ∷ []) here
    ∙ (sym (map-append (λ (name : List ℕ). record { path = path_at library top i; name = name })
    (take j names) (name ∷ []))
    ∙ ap (signals_here library top i) (ap (λ x. take j names ++ x ∷ []) read
    ∙ sym (take_more names j name h))))))

pub within_more : (n s : ℕ) (all now : List ℕ) → ((k : ℕ) → k < length all → slice_index_or all k 0
    < n) → s < n → now ≡ all ++ s ∷ [] → (k : ℕ) → k < length now → slice_index_or now k 0 < n
within_more n s all now h here grown k inside = rw grown (elim (cases_lt k (length all)) [
  | inl old ↦ (let same : get_or (all ++ s ∷ []) k 0 ≡ get_or all k 0 =
      get_or_append_left all (s ∷ []) 0 k old in rw same (h k old))
  | inr new ↦
      (let size : length now ≡ length all + 1 = ap length grown ∙ length_push all s in
      let last : length all ≡ k = omega (arith, size, inside, new) in
      let same : get_or (all ++ s ∷ []) k 0 ≡ s = get_or_push all s 0 k last in rw same here)
])

slot_none : (columns : List (List ℕ)) (slots : List (Option StoredDriver)) (t : ℕ)
    (o : Option StoredDriver) → t < length slots
    → o ≡ get_or slots t o → is_some o ≡ false
    → slice_index_or (map (option_map (driver_from columns)) slots) t None ≡ None
slot_none columns slots t None inside read e = get_or-map (option_map (driver_from columns)) slots t
    None None inside ∙ ap (option_map (driver_from columns)) (sym read)
slot_none columns slots t (Some x) inside read e = absurd (true≢false e)

slot_some : (columns : List (List ℕ)) (slots : List (Option StoredDriver)) (t : ℕ)
    (o : Option StoredDriver) → t < length slots
    → o ≡ get_or slots t o → is_some o ≡ true
    → (old : DriverOf) × (slice_index_or (map (option_map (driver_from columns)) slots) t None
    ≡ Some old)
slot_some columns slots t None inside read e = absurd (true≢false (sym e))
slot_some columns slots t (Some x) inside read e = (
  driver_from columns x,
  get_or-map (option_map (driver_from columns)) slots t (Some x) None inside
      ∙ ap (option_map (driver_from columns)) (sym read),
)

-- a driver for a signal whose slot is taken
pub drive_taken : (library : List ModelOf) (top : ℕ) (columns : List (List ℕ))
    (slots : List (Option StoredDriver)) (twice : Option ℕ)
    (done : List Driving) (t : ℕ) (o : Option StoredDriver) (d : Driving)
    → IsFilled library top (map (option_map (driver_from columns)) slots) twice done
    → t < length slots → o ≡ get_or slots t o
    → is_some o ≡ true → d.0 ≡ signal_at library top t
    → IsFilled library top (map (option_map (driver_from columns)) slots) (option_or twice (Some t))
    (done ++ d ∷ [])
drive_taken library top columns slots twice done t o d h inside read e target =
    let (old, taken) = slot_some columns slots t o inside read e in
    filled_again library top (map (option_map (driver_from columns)) slots) twice done t old d h
    (omega (arith, length-map slots (option_map (driver_from columns)), inside)) taken target

-- a driver for a signal whose slot is free
pub drive_free : (library : List ModelOf) (top : ℕ) (columns : List (List ℕ))
    (slots : List (Option StoredDriver)) (twice : Option ℕ)
    (done : List Driving) (t : ℕ) (o : Option StoredDriver) (driver : StoredDriver) (d : Driving)
    → IsFilled library top (map (option_map (driver_from columns)) slots) twice done
    → t < length slots → o ≡ get_or slots t o
    → is_some o ≡ false → d.0 ≡ signal_at library top t
    → d.1 ≡ source_of (signal_at library top) (all_rows library) (driver_from columns driver)
    → IsWithinSizes (length (model library top).inputs) (length (signals library top))
    (length (all_rows library))
    (driver_from columns driver)
    → IsFilled library top (map (option_map (driver_from columns)) (set slots t (Some driver)))
    twice (done ++ d ∷ [])
drive_free library top columns slots twice done t o driver d h inside read e target source small =
    rw (map-set (option_map (driver_from columns)) slots t (Some driver))
    (filled_free library top (map (option_map (driver_from columns)) slots) twice done t
    (driver_from columns driver) d h
    (omega (arith, length-map slots (option_map (driver_from columns)), inside))
    (slot_none columns slots t o inside read e) target
    source small)

-- the covers of an instance's model, read from the library by its number
pub covers_of : (library read : List ModelOf) (top i m : ℕ) (covers : List CoverOf) → read ≡ library
    → m ≡ model_at library top (path_at library top i) → covers ≡ (model read m).covers
    → covers ≡ (model_of library top i).covers
covers_of library read top i m covers same named is = is
    ∙ (ap (λ (l : List ModelOf). (model l m).covers) same
    ∙ ap (λ n. (model library n).covers) named)

-- a model with a cover is there
pub cover_there : (library : List ModelOf) (m k : ℕ) → k < length (model library m).covers
    → m < length library
cover_there library m k h = elim (cases_lt m (length library)) [
  | inl inside ↦ inside
  | inr past ↦ absurd (let none : length (model library m).covers ≡ 0 =
      ap (λ (one : ModelOf). length one.covers) (get_or_past library m no_model past) in
      omega (arith, none, h))
]

-- empty slots, and slots that are all taken, as slots of drivers of the graph
pub none_mapped : (columns : List (List ℕ)) (n : ℕ) → map (option_map (driver_from columns))
    (replicate {A = Option StoredDriver} n None) ≡ replicate {A = Option DriverOf} n None
none_mapped columns zero = refl
none_mapped columns (suc n) = ap (λ xs. None ∷ xs) (none_mapped columns n)

pub some_mapped : (columns : List (List ℕ)) (drivers : List StoredDriver)
    → map (option_map (driver_from columns)) (map {B = Option StoredDriver}
    (λ (d : StoredDriver). Some d) drivers)
    ≡ map {B = Option DriverOf} (λ (d : DriverOf). Some d) (map (driver_from columns) drivers)
some_mapped columns [] = refl
some_mapped columns (d ∷ drivers) = ap (λ xs. Some (driver_from columns d) ∷ xs)
    (some_mapped columns drivers)

pub slot_empty : (columns : List (List ℕ)) (slots : List (Option StoredDriver)) (s : ℕ)
    → s < length slots
    → slice_index_or slots s None ≡ None
    → slice_index_or (map (option_map (driver_from columns)) slots) s None ≡ None
slot_empty columns slots s inside free = get_or-map (option_map (driver_from columns)) slots s None
    None inside ∙ ap (option_map (driver_from columns)) free

-- the columns of a cover, by their places among the names of its model, are its signals in an
-- instance
pub column_signals : (library : List ModelOf) (top i n : ℕ) (columns : List (List ℕ))
    → i < length (paths library top)
    → n ≡ first_signal library top i
    → ((j : ℕ) → j < length columns → is_named (names_of (model_of library top i))
    (slice_index_or columns j []) ≡ true)
    → map (signal_at library top) (map (λ p. n + p) (places_in (names_of (model_of library top i))
    columns))
    ≡ signals_here library top i columns
column_signals library top i n [] inside first named = refl
column_signals library top i n (x ∷ columns) inside first named =
    let names = names_of (model_of library top i) in
    let there = found_first names x (named 0 (omega arith)) in
    let here : signal_at library top (n + place_in names x) ≡ record {
      path = path_at library top i;
      name = x;
    } =
    signal_is library top i n (place_in names x) x inside first there
    (named_at names x (place_in names x) refl there) in
    let others = column_signals library top i n columns inside first
    (λ j h. named (suc j) (omega (arith, h))) in
    ap (λ s. s ∷ map (signal_at library top) (map (λ p. n + p) (places_in names columns))) here
    ∙ ap (λ ss. record { path = path_at library top i; name = x } ∷ ss) others

-- and they are among the signals
pub columns_inside : (library : List ModelOf) (top i n : ℕ) (columns : List (List ℕ))
    → i < length (paths library top)
    → n ≡ first_signal library top i
    → ((j : ℕ) → j < length columns → is_named (names_of (model_of library top i))
    (slice_index_or columns j []) ≡ true) → (k : ℕ)
    → k < length (map (λ p. n + p) (places_in (names_of (model_of library top i)) columns))
    → slice_index_or (map (λ p. n + p) (places_in (names_of (model_of library top i)) columns)) k 0
    < length (signals library top)
columns_inside library top i n [] inside first named k h = absurd (omega (arith, h))
columns_inside library top i n (x ∷ columns) inside first named zero h =
    let names = names_of (model_of library top i) in
    signal_within library top i n (place_in names x) inside first
    (found_first names x (named 0 (omega arith)))
columns_inside library top i n (x ∷ columns) inside first named (suc k) h =
    columns_inside library top i n columns inside first (λ j l. named (suc j) (omega (arith, l))) k
    (omega (arith, h))

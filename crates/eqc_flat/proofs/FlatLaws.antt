-- The flat netlist put together from its parts keeps what flat netlists keep, and is that of its
-- hierarchy.
use Rattle.std.proofs.Common.{◌≡◌, ℕ, zero, suc, ◌+◌, ◌-◌, ◌<◌, ◌≤◌, inl, inr, true, false, List}
use Rattle.std.proofs.Common.{[], ◌∷◌, length, map, get_or, refl, sym, ◌∙◌, ap, subst, arith, Some}
use Rattle.std.proofs.Common.{None}
use Rattle.std.specs.Prelude.{slice_index_or}
use Rattle.std.specs.List.{range_with_len}
use Rattle.std.proofs.lemmas.Bool.{true≢false, or_parts, cases_lt}
use Rattle.std.proofs.lemmas.List.{length-map, get_or-map}
use Rattle.std.proofs.lemmas.List.FromFn.{length-range_with_len}
use Rattle.eqc_blif.specs.Netlist.{ModelOf}
use Rattle.eqc_netlist.specs.Names.{is_named, has_twice}
use Rattle.eqc_netlist.specs.Graph.{DriverOf, input, tie, cover, dependencies, IsWithinSizes}
use Rattle.eqc_netlist.specs.Graph.{IsFlat}
use Rattle.eqc_netlist.specs.Dependency.{ends_within}
use Rattle.eqc_hierarchy.specs.Hierarchy.{model, paths}
use Rattle.eqc_hierarchy.specs.Signals.{SignalOf, signals}
use Rattle.eqc_flat.specs.Flattened.{no_signal, path_at, signal_at, signals_here, named_here}
use Rattle.eqc_flat.specs.Flattened.{all_named, IsFlatOf}
use Rattle.eqc_flat.specs.RowTable.{all_rows}
use Rattle.eqc_flat.specs.DriverTable.{IsDriven}
use Rattle.eqc_flat.specs.Ordering.{IsOrder, IsCircular}
use Rattle.eqc_netlist.specs.Drivers.{signal_deps}
use Rattle.eqc_flat.specs.Flattening.{put_together}
use Rattle.eqc_flat.specs.Instances.{IsExpanded}
use Rattle.eqc_flat.proofs.InstanceLaws.{found_signals}
use Rattle.eqc_hierarchy.specs.Codes.{is_cyclic}
use Rattle.eqc_hierarchy.proofs.Distinct.{Member, Distinct, member_get, member_map, member_of_map}
use Rattle.eqc_hierarchy.proofs.Distinct.{all_pieces, distinct_map}
use Rattle.eqc_hierarchy.proofs.NamingLaws.{member_named}
use Rattle.eqc_netlist.proofs.Depth.{ordered_ends}
use Rattle.eqc_flat.proofs.DriverTableLaws.{sourced}
use Rattle.eqc_flat.proofs.ExpandedLaws.{signals_named}
use Rattle.eqc_flat.proofs.OrderLaws.{at_most}
use Rattle.eqc_flat.proofs.HierarchyValues.{IsSourced, not_cyclic, cyclic, output_there}

-- what the parts of a flat netlist keep
pub record IsParts (library : List ModelOf) (top : ℕ) (output_signals : List ℕ) (named : List (ℕ
    × List ℕ)) (places : List (ℕ × ℕ)) (drivers : List DriverOf) (steps : List ℕ) : Type 0 where
  pub few_inputs : length (model library top).inputs ≤ 65535
  pub few_signals : length (signals library top) ≤ 1048576
  pub inputs_once : has_twice (model library top).inputs ≡ false
  pub outputs_once : has_twice (model library top).outputs ≡ false
  pub outputs_of : map (signal_at library top) output_signals ≡ signals_here library top 0
      (model library top).outputs
  pub outputs_within : (o : ℕ) → o < length output_signals → slice_index_or output_signals o 0
      < length (signals library top)
  pub root : path_at library top 0 ≡ []
  pub named_all : named ≡ all_named library top
  pub placed : paths library top ≡ [] ∷ map (λ place. place.1 ∷ path_at library top place.0) places
  pub parents : (k : ℕ) → k < length places → (slice_index_or places k (0, 0)).0 ≤ k
  pub driven : IsDriven library top drivers
  pub ordered : IsOrder drivers steps

driven_size : (library : List ModelOf) (top : ℕ) (drivers : List DriverOf)
    → IsDriven library top drivers → length drivers ≡ length (signals library top)
driven_size library top drivers h = sym (length-map drivers (λ (d : DriverOf). Some d)) ∙ h.size

slot_at : (drivers : List DriverOf) (s : ℕ) → s < length drivers
    → slice_index_or (map (λ (d : DriverOf). Some d) drivers) s None
    ≡ Some (slice_index_or drivers s (input 0))
slot_at drivers s h = get_or-map (λ (d : DriverOf). Some d) drivers s (input 0) None h

-- each driver speaks of what is there
driver_within : (library : List ModelOf) (top : ℕ) (drivers : List DriverOf) (s : ℕ)
    → IsDriven library top drivers
    → s < length drivers
    → IsWithinSizes (length (model library top).inputs) (length (signals library top))
    (length (all_rows library))
    (slice_index_or drivers s (input 0))
driver_within library top drivers s h inside = h.within s (slice_index_or drivers s (input 0))
    (omega (arith, inside, length-map drivers (λ (d : DriverOf). Some d)))
    (slot_at drivers s inside)

member_place : (xs : List ℕ) (x : ℕ) → Member x xs → (k : ℕ) × (k < length xs)
    × (slice_index_or xs k 0 ≡ x)
member_place [] x h = absurd h
member_place (y ∷ xs) x (inl same) = (0, omega arith, same)
member_place (y ∷ xs) x (inr there) = let (k, inside, is) = member_place xs x there in
    (suc k, omega (arith, inside), is)

dependency_within : (inputs n rows : ℕ) (driver : DriverOf) (x : ℕ)
    → IsWithinSizes inputs n rows driver → Member x (dependencies driver) → x < n
dependency_within inputs n rows (input position) x h e = absurd e
dependency_within inputs n rows (tie other) x h (inl same) = omega (arith, same, h)
dependency_within inputs n rows (tie other) x h (inr none) = absurd none
dependency_within inputs n rows (cover columns r) x h e = let (k, inside, is) =
    member_place columns x e in let least = h.0 k inside in omega (arith, least, is)

-- the signals of the drivers are those of the hierarchy
pub are_sourced : (library : List ModelOf) (top : ℕ) (output_signals : List ℕ) (named : List (ℕ
    × List ℕ)) (places : List (ℕ × ℕ))
    (drivers : List DriverOf) (steps : List ℕ) → IsDriven library top drivers
    → IsSourced library top (put_together library top output_signals named places drivers steps)
are_sourced library top output_signals named places drivers steps h = record {
  size = driven_size library top drivers h;
  sourced = λ s inside.
      sourced library top (map (λ (d : DriverOf). Some d) drivers) s (slice_index_or drivers s
      (input 0)) h
      (omega (arith, inside, length-map drivers (λ (d : DriverOf). Some d)))
      (slot_at drivers s inside);
  closed = λ s x inside e.
      let size = driven_size library top drivers h in
      let less =
      dependency_within (length (model library top).inputs) (length (signals library top))
      (length (all_rows library))
      (slice_index_or drivers s (input 0)) x (driver_within library top drivers s h inside) e in
      omega (arith, less, size);
}

-- all that a signal depends on ends, where the signals have an order
ends : (drivers : List DriverOf) (steps : List ℕ) → IsOrder drivers steps → (s : ℕ)
    → s < length drivers → ends_within (signal_deps drivers) (length drivers) s ≡ true
ends drivers steps h s inside = let P : ℕ → Type 0 = λ n. ends_within (signal_deps drivers) n s
    ≡ true in subst P h.count (ordered_ends (signal_deps drivers) steps h.ordered s
    (h.each s inside))

pub in_order_not_cyclic : (library : List ModelOf) (top : ℕ) (drivers : List DriverOf)
    (steps : List ℕ) → IsDriven library top drivers → IsOrder drivers steps → is_cyclic library top
    ≡ false
in_order_not_cyclic library top drivers steps h o =
    not_cyclic library top (put_together library top [] [] [] drivers steps)
    (are_sourced library top [] [] [] drivers steps h)
    (λ s inside. ends drivers steps o s inside)

pub circular_cyclic : (library : List ModelOf) (top : ℕ) (drivers : List DriverOf)
    → IsDriven library top drivers → IsCircular drivers → is_cyclic library top ≡ true
circular_cyclic library top drivers h (s, inside, never) =
    cyclic library top (put_together library top [] [] [] drivers []) (are_sourced library top [] []
    [] drivers [] h) s inside never

-- each named signal is of an instance that is there
named_in : (library : List ModelOf) (top : ℕ) (s : ℕ × List ℕ) → Member s (all_named library top)
    → s.0 < length (paths library top)
named_in library top s h = all_pieces (λ t. t.0 < length (paths library top))
    (named_here library top) (range_with_len 0 (length (paths library top))) each s h
  where
    in_range : (a n y : ℕ) → Member y (range_with_len a n) → y < a + n
    in_range a zero y h = absurd h
    in_range a (suc n) y (inl h) = omega (arith, h)
    in_range a (suc n) y (inr h) = let k : y < a + 1 + n = in_range (a + 1) n y h in
        omega (arith, k)

    each : (i : ℕ) (t : ℕ × List ℕ) → Member i (range_with_len 0 (length (paths library top)))
        → Member t (named_here library top i) → t.0 < length (paths library top)
    each i t inside here =
        let (name, there, same) = member_of_map (λ (name : List ℕ). (i, name)) t _ here in
        let less : i < 0 + length (paths library top) = in_range 0 (length (paths library top)) i
        inside in
        let number : i ≡ t.0 = ap (λ (p : ℕ × List ℕ). p.0) same in
        omega (arith, less, number)

-- the instance of each signal is there
instances_there : (library : List ModelOf) (top : ℕ) (output_signals : List ℕ) (named : List (ℕ
    × List ℕ)) (places : List (ℕ × ℕ))
    (drivers : List DriverOf) (steps : List ℕ) → IsParts library top output_signals named places
    drivers steps → (s : ℕ)
    → s < length named → (slice_index_or named s (0, [])).0 ≤ length places
instances_there library top output_signals named places drivers steps h s inside =
    let here : (slice_index_or named s (0, [])).0 < length (paths library top) =
    named_in library top (slice_index_or named s (0, []))
    (let P : List (ℕ × List ℕ) → Type 0 = λ l. Member (slice_index_or named s (0, [])) l in
    subst P h.named_all (member_get named s (0, []) inside)) in
    omega (
      arith,
      here,
      ap length h.placed,
      length-map places (λ (place : ℕ × ℕ). place.1
          ∷ path_at library top place.0),
    )

-- names of which none stands twice are different signals of an instance
names_differ : (names : List (List ℕ)) → has_twice names ≡ false → Distinct names
names_differ [] e = tt
names_differ (name ∷ names) e = let both = or_parts (is_named names name) (has_twice names) e in
    (λ there. true≢false (sym (member_named name names there) ∙ both.0), names_differ names both.1)

signals_differ : (path : List ℕ) (names : List (List ℕ)) → has_twice names ≡ false
    → Distinct {X = SignalOf} (map (λ name. record { path = path; name = name }) names)
signals_differ path names e = distinct_map (λ (name : List ℕ). record { path = path; name = name })
    names (λ x z same. ap (λ (s : SignalOf). s.name) same) (names_differ names e)

-- what has different images is different
distinct_origins : {X Y : Type 0} (f : X → Y) (xs : List X) → Distinct (map f xs) → Distinct xs
distinct_origins f [] d = tt
distinct_origins f (x ∷ xs) d = (λ there. d.0 (member_map f x xs there), distinct_origins f xs d.1)

-- different numbers below n are at most n
in_range_from : (a n y : ℕ) → a ≤ y → y < a + n → Member y (range_with_len a n)
in_range_from a zero y low high = absurd (omega arith)
in_range_from a (suc n) y low high = elim (cases_lt a y) [
  | inl less ↦
      inr (in_range_from (a + 1) n y (omega (arith, less)) (omega (arith, high)))
  | inr same ↦
      inl (omega (arith, same, low))
]

below_few : (n : ℕ) (xs : List ℕ) → Distinct xs → ((o : ℕ) → o < length xs → slice_index_or xs o 0
    < n) → length xs ≤ n
below_few n xs differ below =
    let there : (y : ℕ) → Member y xs → Member y (range_with_len 0 n) = λ y here.
    let (k, inside, same) = member_place xs y here in
    let less : y < n = (let P : ℕ → Type 0 = λ z. z < n in subst P same (below k inside)) in
    in_range_from 0 n y (omega arith) (omega (arith, less)) in
    let most = at_most xs (range_with_len 0 n) differ there in
    omega (arith, most, length-range_with_len 0 n)

-- the parts make a flat netlist
pub parts_flat : (library : List ModelOf) (top : ℕ) (output_signals : List ℕ) (named : List (ℕ
    × List ℕ)) (places : List (ℕ × ℕ))
    (drivers : List DriverOf) (steps : List ℕ) → IsParts library top output_signals named places
    drivers steps
    → IsFlat (put_together library top output_signals named places drivers steps)
parts_flat library top output_signals named places drivers steps h = record {
  few_inputs = h.few_inputs;
  few_signals = omega (arith, size, h.few_signals);
  few_outputs =
      let differ =
      distinct_origins (signal_at library top) output_signals
      (let P : List SignalOf → Type 0 = λ l. Distinct l in
      subst P (sym h.outputs_of) (signals_differ (path_at library top 0)
      (model library top).outputs h.outputs_once)) in
      let few = below_few (length (signals library top)) output_signals differ h.outputs_within in
      omega (arith, few, outputs, size);
  each_named =
      ap length h.named_all
      ∙ (sym (ap length (signals_named library top)
      ∙ length-map (all_named library top) (λ (s : ℕ × List ℕ). record {
        path =
            path_at library top s.0;
        name = s.1;
      }))
      ∙ sym size);
  each_output = outputs;
  inputs_differ = h.inputs_once;
  outputs_differ = h.outputs_once;
  outputs_within = λ o inside. let less = h.outputs_within o (omega (arith, inside, outputs)) in
      omega (arith, less, size);
  drivers_within = λ s inside.
      let P : ℕ → Type 0 = λ n.
      IsWithinSizes (length (model library top).inputs) n (length (all_rows library))
      (slice_index_or drivers s (input 0)) in
      subst P (sym size) (driver_within library top drivers s h.driven inside);
  steps_within = h.ordered.within;
  instances_within = instances_there library top output_signals named places drivers steps h;
  parents_before = λ i some there. let before = h.parents (i - 1) (omega (arith, some, there)) in
      omega (arith, before, some);
  ordered = h.ordered.ordered;
  each_step = h.ordered.each;
  step_count = h.ordered.count;
  once = h.ordered.once;
}
  where
    size : length drivers ≡ length (signals library top)
    size = driven_size library top drivers h.driven

    outputs : length output_signals ≡ length (model library top).outputs
    outputs =
        sym (length-map output_signals (signal_at library top))
        ∙ (ap length h.outputs_of
        ∙ length-map (model library top).outputs (λ (name : List ℕ). record {
          path =
              path_at library top 0;
          name = name;
        }))

-- signals of names of the main model
main_signals : (library : List ModelOf) (top : ℕ) (names : List (List ℕ)) → path_at library top 0
    ≡ [] → signals_here library top 0 names ≡ map (λ name. record { path = []; name = name }) names
main_signals library top names root =
    ap (λ (p : List ℕ). map (λ (name : List ℕ). record { path = p; name = name }) names) root

-- the parts make the flat netlist of their hierarchy
pub parts_flat_of : (library : List ModelOf) (top : ℕ) (output_signals : List ℕ) (named : List (ℕ
    × List ℕ)) (places : List (ℕ × ℕ))
    (drivers : List DriverOf) (steps : List ℕ) → IsParts library top output_signals named places
    drivers steps
    → IsFlatOf library top (put_together library top output_signals named places drivers steps)
parts_flat_of library top output_signals named places drivers steps h = record {
  inputs = refl;
  outputs = refl;
  output_signals = main;
  placed = h.placed;
  parents = h.parents;
  named = signals_named library top
      ∙ ap (map (λ (s : ℕ × List ℕ). record { path = path_at library top s.0; name = s.1 }))
      (sym h.named_all);
  named_within = instances_there library top output_signals named places drivers steps h;
  sourced = (are_sourced library top output_signals named places drivers steps h.driven).sourced;
  values = λ a o inside.
      let from : o < length output_signals =
      omega (
        arith,
        inside,
        ap length main,
        length-map output_signals (signal_at library top),
        length-map {B = SignalOf} (model library top).outputs (λ (name : List ℕ). record {
          path =
              [];
          name = name;
        }),
      ) in
      let here : signal_at library top (slice_index_or output_signals o 0) ≡ record {
        path = [];
        name = slice_index_or (model library top).outputs o [];
      } =
      sym (get_or-map (signal_at library top) output_signals o 0 no_signal from)
      ∙ (ap (λ (l : List SignalOf). get_or l o no_signal) main
      ∙ get_or-map (λ (name : List ℕ). record { path = []; name = name })
      (model library top).outputs o [] no_signal inside) in
      let less : slice_index_or output_signals o 0 < length drivers =
      (let k = h.outputs_within o from in let size = driven_size library top drivers h.driven in
      omega (arith, k, size)) in
      output_there library top (put_together library top output_signals named places drivers steps)
      (are_sourced library top output_signals named places drivers steps h.driven) a
      (slice_index_or output_signals o 0)
      (slice_index_or (model library top).outputs o []) less (ends drivers steps h.ordered
      (slice_index_or output_signals o 0) less)
      here;
}
  where
    main : map (signal_at library top) output_signals ≡ map (λ name. record {
      path = [];
      name =
          name;
    }) (model library top).outputs
    main = h.outputs_of ∙ main_signals library top (model library top).outputs h.root

-- the same parts, read from elsewhere
pub flat_same : (library : List ModelOf) (top : ℕ) (inputs outputs : List (List ℕ))
    (output_signals : List ℕ) (named : List (ℕ × List ℕ))
    (places : List (ℕ × ℕ)) (drivers : List DriverOf) (rows : List (List (List ℕ))) (steps : List ℕ)
    → inputs ≡ (model library top).inputs → outputs ≡ (model library top).outputs
    → rows ≡ all_rows library
    → put_together library top output_signals named places drivers steps
    ≡ record {
      inputs = inputs;
      outputs = outputs;
      output_signals = output_signals;
      signals = named;
      places = places;
      drivers = drivers;
      rows = rows;
      steps = steps;
    }
flat_same library top inputs outputs output_signals named places drivers rows steps i o r =
    rw (i, o, r) refl

-- the few signals of a hierarchy
pub expanded_few : (library naming : List ModelOf) (top signals_ : ℕ) (models firsts : List ℕ)
    (places : List (ℕ × ℕ))
    → IsExpanded library naming top models firsts places signals_ → length (signals library top)
    ≤ 1048576
expanded_few library naming top signals_ models firsts places h =
    let all = found_signals library top (length (paths library top)) signals_ models firsts places
    h.found refl in
    omega (arith, all, h.found.few)

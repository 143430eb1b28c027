-- What is at fault is found, and told by its place.
use Rattle.std.proofs.Common.{
  ◌==◌,
  ◌≡◌,
  ℕ,
  zero,
  suc,
  ◌+◌,
  ◌-◌,
  ◌<◌,
  ◌≤◌,
  inl,
  inr,
  Bool,
  true,
  false,
  ◌||◌,
  List,
  [],
  ◌∷◌,
  ◌++◌,
  length,
  map,
  take,
  drop,
  get_or,
  refl,
  sym,
  ◌∙◌,
  ap,
  subst,
  arith,
  Option,
  Some,
  None,
  nat_lt,
}
use Rattle.std.specs.Prelude.{slice_index_or, is_some, is_none, position, IsSome, Contains}
use Rattle.std.specs.Prelude.{MatchOption}
use Rattle.std.specs.List.{list_any, flat_map}
use Rattle.std.specs.Option.{option_map}
use Rattle.std.proofs.lemmas.Bool.{true≢false, cases_lt, lt-ltb, eq-eqb, eqb-true, ltb-true}
use Rattle.std.proofs.lemmas.List.Quantifiers.{position-Some}
use Rattle.std.proofs.lemmas.List.{append_assoc, append-nil, get_or-map, get_or-take, get_or-drop}
use Rattle.std.proofs.lemmas.List.{length-map, length-take-le, length-drop, take_all, take_more}
use Rattle.eqc_blif.specs.Netlist.{ModelOf}
use Rattle.eqc_blif.proofs.CodeLemmas.{alone}
use Rattle.eqc_netlist.specs.Graph.{DriverOf, input, tie, cover, dependencies}
use Rattle.eqc_flat.specs.HierarchyLaws.{needed}
use Rattle.eqc_flat.specs.Ordering.{IsTrail, HasNoOrder}
use Rattle.eqc_netlist.specs.Drivers.{signal_deps}
use Rattle.eqc_hierarchy.specs.Walks.{IsWalk, from_on, StandOnce}
use Rattle.eqc_hierarchy.specs.Hierarchy.{model, model_at, paths_within, paths}
use Rattle.eqc_hierarchy.specs.Signals.{SignalOf, needs, names_of, signals, sources, drivings}
use Rattle.eqc_hierarchy.specs.Codes.{
  has_no_such_model,
  is_recursive,
  has_unknown_formal,
  has_formal_twice,
  has_missing_formal,
  is_too_large,
  has_many_inputs,
  is_driven_twice,
  is_undriven,
  is_cyclic,
  code_if,
  flat_code,
  IsRefusedWith,
}
use Rattle.eqc_flat.specs.Flattened.{path_at, model_of, first_signal, signal_at, source_of}
use Rattle.eqc_flat.specs.DriverTable.{in_slot, IsFilled, IsTable, IsDriven, driven_code}
use Rattle.eqc_flat.specs.DriverTable.{first_driven, IsDrivenSo}
use Rattle.eqc_hierarchy.specs.Columns.{all_columns}
use Rattle.eqc_flat.specs.RowTable.{all_rows}
use Rattle.eqc_netlist.specs.StoredDrivers.{driver_from}
use Rattle.eqc_flat.specs.Finding.{steps_of, hierarchical_name, IsCircle}
use Rattle.eqc_netlist.specs.Rule.{rule_code}
use Rattle.eqc_flat.specs.declared.finding.hierarchical_name.Step.{Step}
use Rattle.eqc_netlist.specs.declared.rule.Rule.{Rule}
use Rattle.eqc_netlist.specs.declared.drivers.stored_driver.StoredDriver.{StoredDriver}
use Rattle.eqc_flat.specs.declared.drivers.driver_table.Driven.{Driven}
use Rattle.eqc_flat.specs.declared.drivers.driver_table.Driven.TheVariants.{Twice, Never}
use Rattle.eqc_flat.proofs.InstanceLaws.{first_more, first_all}
use Rattle.eqc_flat.proofs.DrivingLaws.{slot_empty}
use Rattle.eqc_flat.proofs.DepthLaws.{no_code}
use Rattle.eqc_hierarchy.proofs.Distinct.{Member, member_get}
use Rattle.eqc_flat.proofs.FlatLaws.{are_sourced, in_order_not_cyclic}
use Rattle.eqc_flat.proofs.DriverTableLaws.{none_place, sourced, driven_twice, not_driven_twice}
use Rattle.eqc_hierarchy.proofs.FaultLaws.{none_some, unplaced, conditions, first_code, code_first}
use Rattle.eqc_hierarchy.proofs.FaultLaws.{told_code}

-- the first instance is the main model
pub first_path : (library : List ModelOf) (top : ℕ) → path_at library top 0 ≡ []
unfolding paths_within
first_path library top = by (length library)
  where
    by : (n : ℕ) → slice_index_or (paths_within library top n) 0 [] ≡ []
    by zero = refl
    by (suc n) = refl

-- one step further up
pub step_more : (library : List ModelOf) (top inner parent position m : ℕ)
    (all done now : List Step)
    → all ≡ done ++ steps_of library top (path_at library top inner)
    → path_at library top inner ≡ position ∷ path_at library top parent
    → m ≡ model_at library top (path_at library top inner)
    → now ≡ done ++ record { position = position; model = m } ∷ []
    → all ≡ now ++ steps_of library top (path_at library top parent)
step_more library top inner parent position m all done now is place named grown =
    let up = steps_of library top (path_at library top parent) in
    let here : steps_of library top (path_at library top inner) ≡ record {
      position = position;
      model = m;
    } ∷ up =
    ap (steps_of library top) place ∙ ap (λ (x : ℕ). record { position = position; model = x } ∷ up)
    (sym (named ∙ ap (model_at library top) place)) in
    is ∙ (ap (λ (l : List Step). done ++ l) here
    ∙ (sym (append_assoc done (record { position = position; model = m } ∷ []) up)
    ∙ ap (λ (l : List Step). l ++ up) (sym grown)))

pub steps_end : (library : List ModelOf) (top inner : ℕ) (all done : List Step)
    → all ≡ done ++ steps_of library top (path_at library top inner) → inner ≡ 0 → done ≡ all
steps_end library top inner all done is none =
    sym (is ∙ (ap (λ (i : ℕ). done ++ steps_of library top (path_at library top i)) none
    ∙ (ap (λ (path : List ℕ). done ++ steps_of library top path) (first_path library top)
    ∙ append-nil done)))

-- the instance of a signal is looked for one instance further on
pub next_instance : (library : List ModelOf) (top i k s n : ℕ) → i < length (paths library top)
    → first_signal library top i + k ≡ s → s < length (signals library top)
    → n ≡ length (names_of (model_of library top i))
    → n ≤ k → (i + 1 < length (paths library top)) × (first_signal library top (i + 1) + (k - n)
    ≡ s)
next_instance library top i k s n inside here less size most =
    let more = first_more library top i inside in
    let same : first_signal library top (i + 1) + (k - n) ≡ s =
    omega (arith, more, size, most, here) in (
      elim (cases_lt (i + 1) (length (paths library top))) [
        | inl further ↦ further
        | inr past ↦ absurd (let all = first_all library top (i + 1) (omega (arith, past, inside))
            in omega (arith, all, same, less))
      ],
      same,
    )

apart : (n m : ℕ) → (n ≡ m → ⊥) → Some n ≡ Some m → ⊥
apart n m other e = other (inside e)
  where
    inside : Some n ≡ Some m → n ≡ m
    inside e = cc

-- what holds of a hierarchy whose signals were numbered, and what is left to be told
pub record IsNumbered (library : List ModelOf) (top code : ℕ) : Type 0 where
  pub not_recursive : is_recursive library top ≡ false
  pub formals_known : has_unknown_formal library top ≡ false
  pub small : is_too_large library top ≡ false
  pub few : length (model library top).inputs ≤ 65535
  pub left : code_if (is_driven_twice library top) 26 (code_if (is_undriven library top) 27
      (code_if (is_cyclic library top) 28 None)) ≡ Some code

pub numbered : (library : List ModelOf) (top code : ℕ) → 25 < code → code < 29
    → IsRefusedWith library top code → IsNumbered library top code
unfolding flat_code has_many_inputs
numbered library top code low high (limit, most, e) =
    let a = no_code (Some code) (has_no_such_model library top) 21 _
    (other 21 (λ k. omega (arith, k, low))) e in
    let b = no_code (Some code) (is_recursive library top) 22 _
    (other 22 (λ k. omega (arith, k, low))) a.1 in
    let c = no_code (Some code) (has_unknown_formal library top) 23 _
    (other 23 (λ k. omega (arith, k, low))) b.1 in
    let d = no_code (Some code) (has_formal_twice library top) 24 _
    (other 24 (λ k. omega (arith, k, low))) c.1 in
    let f = no_code (Some code) (has_missing_formal library top) 25 _
    (other 25 (λ k. omega (arith, k, low))) d.1 in
    let g = no_code (Some code) (is_too_large library top) 29 _
    (other 29 (λ k. omega (arith, k, high))) f.1 in
    let h = no_code (Some code) (has_many_inputs library top limit) 30 _
    (other 30 (λ k. omega (arith, k, high))) g.1 in
    record { not_recursive = b.0; formals_known = c.0; small = g.0; few = few h.0; left = h.1 }
  where
    other : (n : ℕ) → (n ≡ code → ⊥) → Some n ≡ Some code → ⊥
    other n = apart n code

    few : nat_lt limit (length (model library top).inputs) ≡ false
        → length (model library top).inputs ≤ 65535
    few e = elim (cases_lt limit (length (model library top).inputs)) [
      | inl many ↦ absurd (true≢false (sym (lt-ltb limit (length (model library top).inputs) many)
          ∙ e))
      | inr least ↦ omega (arith, least, most)
    ]

-- which condition it is
told_26 : (twice none circle : Bool) → code_if twice 26 (code_if none 27 (code_if circle 28 None))
    ≡ Some 26 → twice ≡ true
told_26 true none circle e = refl
told_26 false true circle e = absurd (apart 27 26 (λ k. omega (arith, k)) e)
told_26 false false true e = absurd (apart 28 26 (λ k. omega (arith, k)) e)
told_26 false false false e = absurd (none_some 26 e)

told_27 : (twice none circle : Bool) → code_if twice 26 (code_if none 27 (code_if circle 28 None))
    ≡ Some 27 → (twice ≡ false) × (none ≡ true)
told_27 true none circle e = absurd (apart 26 27 (λ k. omega (arith, k)) e)
told_27 false true circle e = (refl, refl)
told_27 false false true e = absurd (apart 28 27 (λ k. omega (arith, k)) e)
told_27 false false false e = absurd (none_some 27 e)

pub told_28 : (twice none circle : Bool)
    → code_if twice 26 (code_if none 27 (code_if circle 28 None)) ≡ Some 28 → (twice ≡ false)
    × (none ≡ false) × (circle ≡ true)
told_28 true none circle e = absurd (apart 26 28 (λ k. omega (arith, k)) e)
told_28 false true circle e = absurd (apart 27 28 (λ k. omega (arith, k)) e)
told_28 false false true e = (refl, refl, refl)
told_28 false false false e = absurd (none_some 28 e)

-- a table of a hierarchy that is refused by 26 knows a signal that is driven twice
pub twice_known : (library : List ModelOf) (top : ℕ) (slots : List (Option DriverOf))
    (twice : Option ℕ)
    → IsNumbered library top 26 → IsFilled library top slots twice (drivings library top)
    → is_some twice ≡ true
twice_known library top slots (Some s) h filled = refl
twice_known library top slots None h filled =
    absurd (true≢false (sym (told_26 (is_driven_twice library top) (is_undriven library top)
    (is_cyclic library top) h.left)
    ∙ not_driven_twice library top slots filled))

-- a table of a hierarchy that is refused by 27 knows none
pub none_twice : (library : List ModelOf) (top : ℕ) (slots : List (Option DriverOf))
    (twice : Option ℕ)
    → IsNumbered library top 27 → IsFilled library top slots twice (drivings library top)
    → twice ≡ None
none_twice library top slots None h filled = refl
none_twice library top slots (Some s) h filled =
    absurd (true≢false (sym (driven_twice library top slots s filled)
    ∙ (told_27 (is_driven_twice library top) (is_undriven library top) (is_cyclic library top)
    h.left).0))

none_at : {X : Type 0} (p : X → Bool) (xs : List X) (k : ℕ) (d : X) → list_any p xs ≡ false
    → k < length xs → p (get_or xs k d) ≡ false
none_at p [] k d e h = absurd (omega arith)
none_at p (x ∷ xs) zero d e h = first (p x) (list_any p xs) e
  where
    first : (a b : Bool) → (a || b) ≡ false → a ≡ false
    first false b k = refl
    first true b k = absurd (true≢false k)
none_at p (x ∷ xs) (suc k) d e h = none_at p xs k d (rest (p x) (list_any p xs) e)
    (omega (arith, h))
  where
    rest : (a b : Bool) → (a || b) ≡ false → b ≡ false
    rest false b k = k
    rest true b k = absurd (true≢false k)

-- a hierarchy whose slots are all taken has a driver for each signal
all_taken : (library : List ModelOf) (top : ℕ) (columns : List (List ℕ))
    (slots : List (Option StoredDriver))
    → IsFilled library top (map (option_map (driver_from columns)) slots) None
    (drivings library top)
    → list_any is_none slots ≡ false → is_undriven library top ≡ false
unfolding is_undriven
all_taken library top columns slots h e = none_place (λ s. length (sources library top s) == 0)
    (signals library top) (λ i k.
    let room : i < length slots =
    omega (arith, h.size, k, length-map slots (option_map (driver_from columns))) in
    by i room (slice_index_or slots i None) refl)
  where
    by : (i : ℕ) → i < length slots → (o : Option StoredDriver) → slice_index_or slots i None ≡ o
        → (length (sources library top (signal_at library top i)) == 0) ≡ false
    by i room None is = absurd (true≢false (sym (ap is_none is)
        ∙ none_at is_none slots i None e room))
    by i room (Some d) is =
        let taken : slice_index_or (map (option_map (driver_from columns)) slots) i None
        ≡ Some (driver_from columns d) =
        get_or-map (option_map (driver_from columns)) slots i None None room
        ∙ ap (option_map (driver_from columns)) is in
        rw (sourced library top (map (option_map (driver_from columns)) slots) i
        (driver_from columns d) h
        (omega (arith, room, length-map slots (option_map (driver_from columns)))) taken) refl

-- a table of a hierarchy that is refused by 27 has an empty slot
pub empty_known : (library : List ModelOf) (top : ℕ) (columns : List (List ℕ))
    (slots : List (Option StoredDriver)) (twice : Option ℕ)
    → IsNumbered library top 27 → IsFilled library top (map (option_map (driver_from columns))
    slots) twice (drivings library top)
    → is_some (position is_none slots) ≡ true
empty_known library top columns slots twice h filled = by (is_some (position is_none slots)) refl
  where
    once : IsFilled library top (map (option_map (driver_from columns)) slots) None
        (drivings library top)
    once =
        let P : Option ℕ → Type 0 =
        λ o. IsFilled library top (map (option_map (driver_from columns)) slots) o
        (drivings library top) in
        subst P (none_twice library top (map (option_map (driver_from columns)) slots) twice h
        filled) filled

    by : (b : Bool) → is_some (position is_none slots) ≡ b → is_some (position is_none slots) ≡ true
    by true e = e
    by false e =
        absurd (true≢false (sym (told_27 (is_driven_twice library top) (is_undriven library top)
        (is_cyclic library top) h.left).1
        ∙ all_taken library top columns slots once (unplaced is_none slots e)))

-- the first empty slot is that of the first signal that nothing drives
pub empty_undriven : (library : List ModelOf) (top : ℕ) (columns : List (List ℕ))
    (slots : List (Option StoredDriver)) (twice : Option ℕ)
    (s : ℕ) → IsNumbered library top 27
    → IsFilled library top (map (option_map (driver_from columns)) slots) twice
    (drivings library top)
    → position is_none slots ≡ Some s → (s < length (signals library top))
    × IsDrivenSo Never library top s
empty_undriven library top columns slots twice s h filled e =
    let found = position-Some is_none slots s None e in
    let free : slice_index_or slots s None ≡ None = none_there (slice_index_or slots s None) found.1
    in
    let room : s < length (map (option_map (driver_from columns)) slots) =
    omega (arith, found.0, length-map slots (option_map (driver_from columns))) in (
      omega (arith, room, filled.size),
      (
        filled.once once s room ∙ ap (λ o. map (source_of (signal_at library top)
            (all_rows library)) (in_slot o)) (slot_empty columns slots s found.0 free),
        λ k less none. taken k (omega (arith, less, found.0)) (slice_index_or slots k None) refl
            (found.2 k less) none,
      ),
    )
  where
    none_there : (o : Option StoredDriver) → is_none o ≡ true → o ≡ None
    none_there None k = refl
    none_there (Some d) k = absurd (true≢false (sym k))

    once : is_some twice ≡ false
    once = ap is_some (none_twice library top (map (option_map (driver_from columns)) slots) twice h
        filled)

    taken : (k : ℕ) → k < length slots → (o : Option StoredDriver) → slice_index_or slots k None ≡ o
        → is_none (slice_index_or slots k None) ≡ false
        → sources library top (signal_at library top k) ≡ [] → ⊥
    taken k room None is some none = true≢false (sym (ap is_none is) ∙ some)
    taken k room (Some d) is some none =
        let place : k < length (map (option_map (driver_from columns)) slots) =
        omega (arith, room, length-map slots (option_map (driver_from columns))) in
        let slot : slice_index_or (map (option_map (driver_from columns)) slots) k None
        ≡ Some (driver_from columns d) =
        get_or-map (option_map (driver_from columns)) slots k None None room
        ∙ ap (option_map (driver_from columns)) is in
        let source = source_of (signal_at library top) (all_rows library) in
        let one : sources library top (signal_at library top k) ≡ source (driver_from columns d)
        ∷ [] =
        filled.once once k place ∙ ap (λ o. map source (in_slot o)) slot in
        let long : 0 ≡ 1 = ap length (sym none ∙ one) in
        omega (arith, long)

-- what holds of a hierarchy that is refused for a signal that is driven so
pub driven_numbered : (driven : Driven) (library : List ModelOf) (top : ℕ)
    → IsRefusedWith library top (driven_code driven) → IsNumbered library top (driven_code driven)
driven_numbered Twice library top e = numbered library top 26 (omega arith) (omega arith) e
driven_numbered Never library top e = numbered library top 27 (omega arith) (omega arith) e

-- its table knows one
pub driven_known : (driven : Driven) (library : List ModelOf) (top : ℕ)
    (slots : List (Option StoredDriver)) (twice : Option ℕ)
    → IsNumbered library top (driven_code driven)
    → IsTable library top slots twice (drivings library top)
    → is_some (first_driven driven slots twice) ≡ true
driven_known Twice library top slots twice h table =
    twice_known library top (map (option_map (driver_from (all_columns library))) slots) twice h
    table
driven_known Never library top slots twice h table = empty_known library top (all_columns library)
    slots twice h table

-- the one that it knows is driven so
pub driven_is : (driven : Driven) (library : List ModelOf) (top : ℕ)
    (slots : List (Option StoredDriver)) (twice : Option ℕ) (s : ℕ)
    → IsNumbered library top (driven_code driven)
    → IsTable library top slots twice (drivings library top)
    → first_driven driven slots twice ≡ Some s
    → (s < length (signals library top)) × IsDrivenSo driven library top s
driven_is Twice library top slots twice s h table e = table.again s e
driven_is Never library top slots twice s h table e =
    empty_undriven library top (all_columns library) slots twice s h table e

-- a code that is told is that of a rule
pub code_rule : (library : List ModelOf) (top limit code : ℕ) → flat_code library top limit
    ≡ Some code → (rule : Rule) × (rule_code rule ≡ code)
code_rule library top limit code e =
    by (conditions library top limit) (sym (code_first library top limit) ∙ e)
  where
    by : (cs : List (Bool × Rule)) → first_code cs ≡ Some code → (rule : Rule)
        × (rule_code rule ≡ code)
    by [] k = absurd (none_some code k)
    by ((true, rule) ∷ cs) k = (rule, inside k)
      where
        inside : Some (rule_code rule) ≡ Some code → rule_code rule ≡ code
        inside e = cc
    by ((false, rule) ∷ cs) k = by cs k

pub inputs_many : (library : List ModelOf) (top limit : ℕ) → flat_code library top limit ≡ Some 30
    → limit < length (model library top).inputs
unfolding has_many_inputs
inputs_many library top limit e = ltb-true limit (length (model library top).inputs)
    (alone (has_many_inputs library top limit) (told_code library top limit 30 e))

pub size_large : (library : List ModelOf) (top limit : ℕ) → flat_code library top limit ≡ Some 29
    → 1048576 < length (signals library top) + (length (paths library top) - 1)
unfolding is_too_large
size_large library top limit e = ltb-true 1048576 (length (signals library top)
    + (length (paths library top) - 1)) (alone (is_too_large library top) (told_code library top
    limit 29 e))

pub size_ends : (library : List ModelOf) (top limit : ℕ) → flat_code library top limit ≡ Some 29
    → is_recursive library top ≡ false
unfolding flat_code
size_ends library top limit e =
    let a = no_code (Some 29) (has_no_such_model library top) 21 _
    (apart 21 29 (λ k. absurd (omega (arith, k)))) e in
    (no_code (Some 29) (is_recursive library top) 22 _
    (apart 22 29 (λ k. absurd (omega (arith, k)))) a.1).0

-- walks go on from any place
walk_drop : {X : Type 0} (next : X → List X) (k : ℕ) (xs : List X) → IsWalk next xs
    → IsWalk next (drop k xs)
walk_drop next zero xs h = h
walk_drop next (suc k) [] h = tt
walk_drop next (suc k) (x ∷ []) h = walk_drop next k [] tt
walk_drop next (suc k) (x ∷ y ∷ ys) h = walk_drop next k (y ∷ ys) h.1

-- a walk that begins within a closed part stays there
pub walk_within : (deps : ℕ → List ℕ) (n : ℕ) → ((x y : ℕ) → x < n → Contains (deps x) y → y < n)
    → (xs : List ℕ) → get_or xs 0 0 < n → IsWalk deps xs → (k : ℕ) → k < length xs
    → get_or xs k 0 < n
walk_within deps n closed [] first h k inside = absurd (omega (arith, inside))
walk_within deps n closed (x ∷ xs) first h zero inside = first
walk_within deps n closed (x ∷ []) first h (suc k) inside = absurd (omega (arith, inside))
walk_within deps n closed (x ∷ y ∷ ys) first h (suc k) inside = walk_within deps n closed (y ∷ ys)
    (closed x y first h.0) h.1 k (omega (arith, inside))

-- a walk as a walk of what its nodes stand for
walk_mapped : {X : Type 0} (deps : ℕ → List ℕ) (next : X → List X) (f : ℕ → X) (n : ℕ)
    → ((x y : ℕ) → x < n → Contains (deps x) y → y < n) → ((x y : ℕ) → x < n → Contains (deps x) y
    → Contains (next (f x)) (f y))
    → (xs : List ℕ) → get_or xs 0 0 < n → IsWalk deps xs → IsWalk next (map f xs)
walk_mapped deps next f n closed step [] first h = tt
walk_mapped deps next f n closed step (x ∷ []) first h = tt
walk_mapped deps next f n closed step (x ∷ y ∷ ys) first h =
    (step x y first h.0, walk_mapped deps next f n closed step (y ∷ ys) (closed x y first h.0) h.1)

-- what a driver depends on is what its source needs
needs_mapped : (signal : ℕ → SignalOf) (rows : List (List (List ℕ))) (d : DriverOf)
    → needs (source_of signal rows d) ≡ map signal (dependencies d)
needs_mapped signal rows (input position) = refl
needs_mapped signal rows (tie other) = refl
needs_mapped signal rows (cover columns r) = refl

pub dependency_closed : (library : List ModelOf) (top : ℕ) (drivers : List DriverOf)
    → IsDriven library top drivers → (x y : ℕ)
    → x < length drivers → Contains (signal_deps drivers x) y → y < length drivers
dependency_closed library top drivers driven x y inside h =
    let P : ℕ → Type 0 = λ z. Member z (signal_deps drivers x) in
    (are_sourced library top [] [] [] drivers [] driven).closed x y inside
    (subst P h.2 (member_get (signal_deps drivers x) h.0 y h.1))

dependency_needed : (library : List ModelOf) (top : ℕ) (drivers : List DriverOf)
    → IsDriven library top drivers → (x y : ℕ)
    → x < length drivers → Contains (signal_deps drivers x) y
    → Contains (needed library top (signal_at library top x)) (signal_at library top y)
dependency_needed library top drivers driven x y inside h =
    let deps = signal_deps drivers x in
    let driver = slice_index_or drivers x (input 0) in
    let source = source_of (signal_at library top) (all_rows library) driver in
    let same : map (signal_at library top) deps ≡ needed library top (signal_at library top x) =
    sym (ap (flat_map needs) ((are_sourced library top [] [] [] drivers [] driven).sourced x inside)
    ∙ (append-nil (needs source) ∙ needs_mapped (signal_at library top) (all_rows library)
    driver)) in
    let P : List SignalOf → Type 0 = λ l. Contains l (signal_at library top y) in
    subst P same (
      h.0,
      omega (arith, h.1, length-map deps (signal_at library top)),
      get_or-map (signal_at library top) deps h.0 y (signal_at library top y) h.1
          ∙ ap (signal_at library top) h.2,
    )

-- the circle at the end of a walk along the drivers of a hierarchy
pub circle_named : (library : List ModelOf) (top : ℕ) (drivers : List DriverOf) (walk : List ℕ)
    (start : ℕ)
    (circle : List (List Step × List ℕ) × ℕ) → IsDriven library top drivers → IsTrail drivers walk
    → start + 1 < length walk
    → slice_index_or walk start 0 ≡ slice_index_or walk (length walk - 1) 0
    → circle
    ≡ (
      map (λ s. hierarchical_name library top (signal_at library top s))
          (take 20 (from_on start walk)),
      length (from_on start walk),
    )
    → IsCircle library top circle
circle_named library top drivers walk start circle driven (root, rooted, back) inside same is = (
  members,
  omega (arith, count, long),
  ap (λ (c : List (List Step × List ℕ) × ℕ). c.1) is,
  ap (λ (c : List (List Step × List ℕ) × ℕ). c.0) is,
  (λ k less.
      (let bound = walk_within deps n closed round head steps k (omega (arith, less, count)) in
      let at = get_or-take (length round - 1) round k 0 (omega (arith, less, count)) in
      omega (arith, bound, at, driven.size, length-map drivers (λ (d : DriverOf). Some d)))),
  apart,
  walk_mapped deps (needed library top) (signal_at library top) n closed (dependency_needed library
      top drivers driven) (members ++ slice_index_or members 0 0 ∷ []) front closed_round,
)
  where
    deps : ℕ → List ℕ
    deps = signal_deps drivers

    n : ℕ
    n = length drivers

    closed : (x y : ℕ) → x < n → Contains (deps x) y → y < n
    closed = dependency_closed library top drivers driven

    round : List ℕ
    round = drop start walk

    members : List ℕ
    members = from_on start walk

    long : length round ≡ length walk - start
    long = length-drop start walk

    count : length members ≡ length round - 1
    count = length-take-le (length round - 1) round (omega arith)

    member_is : (k : ℕ) → k < length members → get_or members k 0 ≡ get_or walk (start + k) 0
    member_is k less = get_or-take (length round - 1) round k 0 (omega (arith, less, count))
        ∙ get_or-drop start walk k 0

    apart : StandOnce members
    apart i j less there same =
        back.once (start + i) (start + j) (omega (arith, less)) (omega (
          arith,
          there,
          count,
          long,
          inside,
        ))
        (sym (member_is i (omega (arith, less, there))) ∙ (same ∙ member_is j there))

    steps : IsWalk deps round
    steps = walk_drop deps start walk back.follows

    whole : get_or walk 0 0 < n
    whole = let P : ℕ → Type 0 = λ x. x < n in subst P (sym back.begins) rooted

    head : get_or round 0 0 < n
    head =
        let bound = walk_within deps n closed walk whole back.follows (start + 0)
        (omega (arith, inside)) in
        let at = get_or-drop start walk 0 0 in
        omega (arith, bound, at)

    first_member : get_or members 0 0 ≡ get_or round 0 0
    first_member = get_or-take (length round - 1) round 0 0 (omega (arith, long, inside))

    last : get_or round (length round - 1) 0 ≡ get_or members 0 0
    last =
        let place : start + (length round - 1) ≡ length walk - 1 = omega (arith, long, inside) in
        let none : start + 0 ≡ start = omega arith in
        get_or-drop start walk (length round - 1) 0 ∙ (ap (λ i. get_or walk i 0) place
        ∙ (sym same ∙ (ap (λ i. get_or walk i 0) (sym none) ∙ (sym (get_or-drop start walk 0 0)
        ∙ sym first_member))))

    split : round ≡ members ++ get_or members 0 0 ∷ []
    split =
        let one : length round - 1 + 1 ≡ length round = omega (arith, long, inside) in
        let all : take (length round - 1 + 1) round ≡ round =
        rw one (take_all (length round) round (omega arith)) in
        sym all ∙ (take_more round (length round - 1) 0 (omega (arith, long, inside))
        ∙ ap (λ x. members ++ x ∷ []) last)

    closed_round : IsWalk deps (members ++ get_or members 0 0 ∷ [])
    closed_round = let P : List ℕ → Type 0 = λ l. IsWalk deps l in subst P split steps

    front : get_or (members ++ get_or members 0 0 ∷ []) 0 0 < n
    front = let P : List ℕ → Type 0 = λ l. get_or l 0 0 < n in subst P split head

-- the last of a walk that comes back is found before
pub start_known : (walk : List ℕ) (j node : ℕ) → j < length walk → get_or walk j 0 ≡ node
    → is_some (position (λ other. other == node) walk) ≡ true
start_known walk j node inside same = by (is_some (position (λ other. other == node) walk)) refl
  where
    by : (b : Bool) → is_some (position (λ other. other == node) walk) ≡ b
        → is_some (position (λ other. other == node) walk) ≡ true
    by true e = e
    by false e = absurd (true≢false (sym (eq-eqb (get_or walk j 0) node same)
        ∙ none_at (λ other. other == node) walk j 0 (unplaced (λ other. other == node) walk e)
        inside))

pub start_is : (walk : List ℕ) (j node i : ℕ) → j < length walk → get_or walk j 0 ≡ node
    → position (λ other. other == node) walk ≡ Some i → (i ≤ j) × (get_or walk i 0 ≡ node)
start_is walk j node i inside same e =
    let found = position-Some (λ other. other == node) walk i 0 e in (
      elim (cases_lt j i) [
        | inl later ↦ absurd (true≢false (sym (eq-eqb (get_or walk j 0) node same)
            ∙ found.2 j later))
        | inr before ↦ before
      ],
      eqb-true (get_or walk i 0) node found.1,
    )

-- the nodes of a walk along the drivers of a hierarchy are its signals
pub walk_inside : (library : List ModelOf) (top : ℕ) (drivers : List DriverOf) (walk : List ℕ)
    → IsDriven library top drivers
    → IsTrail drivers walk → (k : ℕ) → k < length walk → slice_index_or walk k 0
    < length (signals library top)
walk_inside library top drivers walk driven (root, rooted, back) k inside =
    let P : ℕ → Type 0 = λ x. x < length drivers in
    let bound = walk_within (signal_deps drivers) (length drivers) (dependency_closed library top
    drivers driven) walk (subst P (sym back.begins) rooted) back.follows k inside in
    omega (arith, bound, driven.size, length-map drivers (λ (d : DriverOf). Some d))

-- the signals of a hierarchy that is refused by 28 have no order
pub circle_left : (library : List ModelOf) (top : ℕ) (drivers : List DriverOf)
    → IsNumbered library top 28 → IsDriven library top drivers → HasNoOrder drivers
circle_left library top drivers h driven order sorted =
    true≢false (sym (told_28 (is_driven_twice library top) (is_undriven library top)
    (is_cyclic library top) h.left).2 ∙ in_order_not_cyclic library top drivers order driven
    sorted)

-- a hierarchy that isn't too large is there
pub hierarchy_there : (library : List ModelOf) (top : ℕ) (o : Option (List ModelOf × ℕ))
    → is_too_large library top ≡ false
    → MatchOption o (is_too_large library top ≡ true) (λ (h : List ModelOf
    × ℕ). (is_too_large library top ≡ false) × (h ≡ (library, top)))
    → IsSome o
hierarchy_there library top None small e = absurd (true≢false (sym e ∙ small))
hierarchy_there library top (Some h) small e = refl

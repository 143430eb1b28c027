-- Slots are filled driving by driving.
use Rattle.std.proofs.Common.{
  ◌==◌,
  ◌≡◌,
  ℕ,
  zero,
  suc,
  ◌+◌,
  ◌<◌,
  ◌≤◌,
  ◌⊎◌,
  inl,
  inr,
  Bool,
  true,
  false,
  ◌||◌,
  if◌then◌else◌,
  List,
  [],
  ◌∷◌,
  ◌++◌,
  length,
  map,
  take,
  drop,
  set,
  get_or,
  replicate,
  refl,
  sym,
  ◌∙◌,
  ap,
  subst,
  arith,
  Option,
  Some,
  None,
  nat_lt,
}
use Rattle.std.specs.Prelude.{is_some, slice_index_or, filter}
use Rattle.std.specs.List.{list_any, flat_map}
use Rattle.std.specs.Option.{option_or}
use Rattle.std.proofs.lemmas.Bool.{cases_eq, lt-ltb, le-ltb, true≢false}
use Rattle.std.proofs.lemmas.Grind.{flat_map-append}
use Rattle.std.proofs.lemmas.List.{
  append_assoc,
  take-append-drop,
  get_or-set_same,
  get_or-set_other,
  length-set,
  append-nil,
  get_or-map,
  map-append,
  length-append,
  take-append-le,
  take_all,
  take_at,
  length-map,
  get_or-replicate,
  length-replicate,
}
use Rattle.eqc_blif.specs.Netlist.{ModelOf}
use Rattle.eqc_netlist.specs.Graph.{DriverOf, input, IsWithinSizes}
use Rattle.eqc_hierarchy.specs.Hierarchy.{model}
use Rattle.eqc_hierarchy.specs.Signals.{SignalOf, SourceOf, Driving, same_signal, sources_in}
use Rattle.eqc_hierarchy.specs.Signals.{signals, drivings, sources}
use Rattle.eqc_hierarchy.specs.Codes.{is_driven_twice, is_undriven}
use Rattle.eqc_flat.specs.Flattened.{no_signal, signal_at, source_of}
use Rattle.eqc_flat.specs.RowTable.{all_rows}
use Rattle.eqc_flat.specs.Finding.{IsFirstDrivenTwice}
use Rattle.eqc_flat.specs.DriverTable.{in_slot, IsFilled}
use Rattle.eqc_flat.proofs.NumberLaws.{same_self, signal_numbers}

-- whether a signal is known
pub some_known : (o : Option ℕ) → is_some o ≡ true → (s : ℕ) × (o ≡ Some s)
some_known None e = absurd (true≢false (sym e))
some_known (Some s) e = (s, refl)

pub none_known : (o : Option ℕ) → is_some o ≡ false → o ≡ None
none_known None e = refl
none_known (Some s) e = absurd (true≢false e)

filter_append : (p : Driving → Bool) (xs ys : List Driving) → filter p (xs ++ ys) ≡ filter p xs
    ++ filter p ys
filter_append p [] ys = refl
filter_append p (x ∷ xs) ys = by_test (p x) (filter_append p xs ys)
  where
    by_test : (b : Bool) → filter p (xs ++ ys) ≡ filter p xs ++ filter p ys
        → (if b then x ∷ filter p (xs ++ ys) else filter p (xs ++ ys))
        ≡ (if b then x ∷ filter p xs else filter p xs) ++ filter p ys
    by_test true e = ap (λ zs. x ∷ zs) e
    by_test false e = e

-- what drives a signal among drivings with more behind them
sources_more : (done more : List Driving) (s : SignalOf) → sources_in (done ++ more) s
    ≡ sources_in done s ++ sources_in more s
sources_more done more s =
    ap (map (λ (d : Driving). d.1)) (filter_append (λ (d : Driving). same_signal d.0 s) done more)
    ∙ map-append (λ (d : Driving). d.1) (filter (λ (d : Driving). same_signal d.0 s) done)
    (filter (λ (d : Driving). same_signal d.0 s) more)

sources_one : (d : Driving) (s : SignalOf) → same_signal d.0 s ≡ true → sources_in (d ∷ []) s ≡ d.1
    ∷ []
sources_one d s e = rw e refl

sources_other : (d : Driving) (s : SignalOf) → same_signal d.0 s ≡ false → sources_in (d ∷ []) s
    ≡ []
sources_other d s e = rw e refl

-- no drivings yet
pub filled_none : (library : List ModelOf) (top n : ℕ) → n ≡ length (signals library top)
    → IsFilled library top (replicate n None) None []
filled_none library top n size = record {
  size = length-replicate n None ∙ size;
  once = λ e s h. rw (get_or-replicate {A = Option DriverOf} n s None None
      (omega (arith, length-replicate {A = Option DriverOf} n None, h))) refl;
  again = λ s e. absurd (no_signal_known s e);
  within = λ s driver h e. absurd
      (none s driver (omega (arith, length-replicate {A = Option DriverOf} n None, h)) e);
}
  where
    no_signal_known : (s : ℕ) → None ≡ Some s → ⊥
    no_signal_known s e = cc

    none : (s : ℕ) (driver : DriverOf) → s < n → get_or {A = Option DriverOf} (replicate n None) s
        None ≡ Some driver → ⊥
    none s driver h e = let is : get_or {A = Option DriverOf} (replicate n None) s None ≡ None =
        get_or-replicate n s None None h in cc

-- the first signal that is driven twice stays the first, with whatever comes behind
still_again : (library : List ModelOf) (top : ℕ) (slots : List (Option DriverOf)) (twice : Option ℕ)
    (done more : List Driving)
    → IsFilled library top slots twice done → (s : ℕ) → twice ≡ Some s
    → (s < length (signals library top)) × IsFirstDrivenTwice library top (done ++ more)
    (signal_at library top s)
still_again library top slots twice done more h s e =
    let known = h.again s e in
    let (k, there, two, none) = known.1 in
    let P : List Driving → Type 0 = λ l. 1 < length (sources_in l (signal_at library top s)) in
    let Q : List Driving → Type 0 = λ l. (t : ℕ) → t < length (signals library top)
    → length (sources_in l (signal_at library top t)) < 2 in (
      known.0,
      (
        k,
        omega (arith, there, length-append done more),
        subst P (sym (take-append-le (k + 1) done more (omega (arith, there)))) two,
        subst Q (sym (take-append-le k done more (omega (arith, there)))) none,
      ),
    )

-- such a signal is driven twice by all drivings
pub first_driven_twice : (library : List ModelOf) (top : ℕ) (all : List Driving) (s : SignalOf)
    → IsFirstDrivenTwice library top all s → 1 < length (sources_in all s)
first_driven_twice library top all s (k, there, two, none) =
    let parts : length (sources_in all s) ≡ length (sources_in (take (k + 1) all) s)
    + length (sources_in (drop (k + 1) all) s) =
    ap (λ (l : List Driving). length (sources_in l s)) (sym (take-append-drop (k + 1) all))
    ∙ (ap length (sources_more (take (k + 1) all) (drop (k + 1) all) s)
    ∙ length-append (sources_in (take (k + 1) all) s) (sources_in (drop (k + 1) all) s)) in
    omega (arith, parts, two)

count_slot : (f : DriverOf → SourceOf) (o : Option DriverOf) → length (map f (in_slot o)) ≤ 1
count_slot f None = omega arith
count_slot f (Some d) = omega arith

-- while no signal is known to be driven twice, none is
one_each : (library : List ModelOf) (top : ℕ) (slots : List (Option DriverOf)) (done : List Driving)
    → IsFilled library top slots None done
    → (s : ℕ) → s < length (signals library top)
    → length (sources_in done (signal_at library top s)) ≤ 1
one_each library top slots done h s inside =
    rw (h.once refl s (omega (arith, h.size, inside)))
    (count_slot (source_of (signal_at library top) (all_rows library)) (slice_index_or slots s
    None))

pub some_place : (p : SignalOf → Bool) (xs : List SignalOf) (i : ℕ) → i < length xs
    → p (get_or xs i no_signal) ≡ true → list_any p xs ≡ true
some_place p [] i h e = absurd (omega arith)
some_place p (x ∷ xs) zero h e = rw e refl
some_place p (x ∷ xs) (suc i) h e = rw (some_place p xs i (omega arith) e) (or_true (p x))
  where
    or_true : (b : Bool) → (b || true) ≡ true
    or_true true = refl
    or_true false = refl

-- one driving more, of a signal whose slot is free
pub filled_free : (library : List ModelOf) (top : ℕ) (slots : List (Option DriverOf))
    (twice : Option ℕ) (done : List Driving) (t : ℕ)
    (driver : DriverOf) (d : Driving) → IsFilled library top slots twice done → t < length slots
    → slice_index_or slots t None ≡ None → d.0 ≡ signal_at library top t
    → d.1 ≡ source_of (signal_at library top) (all_rows library) driver
    → IsWithinSizes (length (model library top).inputs) (length (signals library top))
    (length (all_rows library)) driver
    → IsFilled library top (set slots t (Some driver)) twice (done ++ d ∷ [])
filled_free library top slots twice done t driver d h inside free target source small = record {
  size = length-set slots t (Some driver) ∙ h.size;
  once = λ e s k. sources_more done (d ∷ []) (signal_at library top s)
      ∙ each e s (rw length-set at k) (cases_eq s t);
  again = still_again library top slots twice done (d ∷ []) h;
  within = λ s other k e. elim (cases_eq s t) [
    | inl same ↦
        (let is : Some driver ≡ Some other =
        sym (get_or-set_same slots t (Some driver) None inside)
        ∙ (ap (λ x. slice_index_or (set slots t (Some driver)) x None) (sym same) ∙ e) in
        let P : DriverOf → Type 0 = λ x.
        IsWithinSizes (length (model library top).inputs) (length (signals library top))
        (length (all_rows library)) x in
        subst P (inside_some is) small)
    | inr apart ↦ h.within s other (rw length-set at k)
        (sym (get_or-set_other slots t s (Some driver) None apart) ∙ e)
  ];
}
  where
    inside_some : {x y : DriverOf} → Some x ≡ Some y → x ≡ y
    inside_some e = cc

    each : is_some twice ≡ false → (s : ℕ) → s < length slots → (s ≡ t) ⊎ (s ≡ t → ⊥)
        → sources_in done (signal_at library top s) ++ sources_in (d ∷ []) (signal_at library top s)
        ≡ map (source_of (signal_at library top) (all_rows library))
        (in_slot (slice_index_or (set slots t (Some driver)) s None))
    each e s k (inl same) =
        let here : sources_in done (signal_at library top t) ≡ [] = h.once e t inside
        ∙ ap (λ o. map (source_of (signal_at library top) (all_rows library)) (in_slot o)) free
        in
        let new : sources_in (d ∷ []) (signal_at library top t) ≡ d.1 ∷ [] =
        sources_one d (signal_at library top t)
        (rw target (same_self (signal_at library top t))) in
        rw (same, here, new, source, get_or-set_same slots t (Some driver) None inside) refl
    each e s k (inr apart) =
        let other : same_signal d.0 (signal_at library top s) ≡ false =
        told (same_signal d.0 (signal_at library top s)) refl in
        rw (
          sources_other d (signal_at library top s) other,
          get_or-set_other slots t s
              (Some driver) None apart,
        ) (append-nil (sources_in done (signal_at library top s))
        ∙ h.once e s k)
      where
        told : (b : Bool) → same_signal d.0 (signal_at library top s) ≡ b
            → same_signal d.0 (signal_at library top s) ≡ false
        told false e = e
        told true e =
            let P : SignalOf → Type 0 = λ x. same_signal x (signal_at library top s) ≡ true in
            absurd (apart (sym (signal_numbers library top t s (omega (arith, h.size, inside))
            (omega (arith, h.size, k)) (subst P target e))))

-- one driving more, of a signal that has a driver: it is driven twice
pub filled_again : (library : List ModelOf) (top : ℕ) (slots : List (Option DriverOf))
    (twice : Option ℕ) (done : List Driving) (t : ℕ)
    (old : DriverOf) (d : Driving) → IsFilled library top slots twice done → t < length slots
    → slice_index_or slots t None ≡ Some old → d.0 ≡ signal_at library top t
    → IsFilled library top slots (option_or twice (Some t)) (done ++ d ∷ [])
filled_again library top slots None done t old d h inside taken target = record {
  size = h.size;
  once = λ e. absurd (true≢false e);
  again = λ s e.
      let P : ℕ → Type 0 = λ x. (x < length (signals library top))
      × IsFirstDrivenTwice library top (done ++ d ∷ []) (signal_at library top x) in
      subst P (inside_some e) (omega (arith, h.size, inside), first);
  within = h.within;
}
  where
    inside_some : {x y : ℕ} → Some x ≡ Some y → x ≡ y
    inside_some e = cc

    two : 1 < length (sources_in (done ++ d ∷ []) (signal_at library top t))
    two =
        let here : sources_in done (signal_at library top t) ≡ source_of (signal_at library top)
        (all_rows library) old ∷ [] =
        h.once refl t inside ∙ ap (λ o. map (source_of (signal_at library top) (all_rows library))
        (in_slot o)) taken in
        let new : sources_in (d ∷ []) (signal_at library top t) ≡ d.1 ∷ [] =
        sources_one d (signal_at library top t)
        (rw target (same_self (signal_at library top t))) in
        let both :
        sources_in (done ++ d ∷ []) (signal_at library top t)
        ≡ (source_of (signal_at library top) (all_rows library) old ∷ []) ++ d.1 ∷ [] =
        sources_more done (d ∷ []) (signal_at library top t) ∙ rw (here, new) refl in
        let size : length (sources_in (done ++ d ∷ []) (signal_at library top t)) ≡ 2 =
        ap length both in
        omega (arith, size)

    first : IsFirstDrivenTwice library top (done ++ d ∷ []) (signal_at library top t)
    first =
        let more : length (done ++ d ∷ []) ≡ length done + 1 = length-append done (d ∷ []) in
        let P : List Driving → Type 0 = λ l. 1 < length (sources_in l (signal_at library top t)) in
        let Q : List Driving → Type 0 = λ l. (s : ℕ) → s < length (signals library top)
        → length (sources_in l (signal_at library top s)) < 2 in (
          length done,
          omega (arith, more),
          subst P (sym (take_all (length done + 1) (done ++ d ∷ []) (omega (arith, more)))) two,
          subst Q (sym (take_at done (d ∷ []) (length done) refl))
              (λ s k. let most = one_each library top slots done h s k in omega (arith, most)),
        )
filled_again library top slots (Some first) done t old d h inside taken target = record {
  size = h.size;
  once = λ e. absurd (true≢false e);
  again = still_again library top slots (Some first) done (d ∷ []) h;
  within = h.within;
}

-- once a signal is known to be driven twice, it stays so with whatever comes behind
pub filled_behind : (library : List ModelOf) (top : ℕ) (slots : List (Option DriverOf))
    (twice : Option ℕ) (done more : List Driving)
    → is_some twice ≡ true → IsFilled library top slots twice done
    → IsFilled library top slots twice (done ++ more)
filled_behind library top slots twice done more e h = record {
  size = h.size;
  once = λ k. absurd (true≢false (sym e ∙ k));
  again = still_again library top slots twice done more h;
  within = h.within;
}

-- the drivings of a list of which the first k were gone through
pub filled_list : (library : List ModelOf) (top : ℕ) (slots : List (Option DriverOf))
    (twice : Option ℕ) (done all : List Driving) (k : ℕ)
    → is_some twice ≡ true → IsFilled library top slots twice (done ++ take k all)
    → IsFilled library top slots twice (done ++ all)
filled_list library top slots twice done all k e h =
    let Q : List Driving → Type 0 = λ l. IsFilled library top slots twice l in
    subst Q (append_assoc done (take k all) (drop k all)
    ∙ ap (λ l. done ++ l) (take-append-drop k all)) (filled_behind library top slots twice (done
    ++ take k all) (drop k all) e h)

-- the drivings of pieces of which the first k were gone through
pub filled_pieces : {X : Type 0} (library : List ModelOf) (top : ℕ) (slots : List (Option DriverOf))
    (twice : Option ℕ)
    (f : X → List Driving) (done : List Driving) (all : List X) (k : ℕ) → is_some twice ≡ true
    → IsFilled library top slots twice (done ++ flat_map f (take k all))
    → IsFilled library top slots twice (done ++ flat_map f all)
filled_pieces library top slots twice f done all k e h =
    let Q : List Driving → Type 0 = λ l. IsFilled library top slots twice l in
    let pieces : flat_map f (take k all) ++ flat_map f (drop k all) ≡ flat_map f all =
    sym (flat_map-append f (take k all) (drop k all)) ∙ ap (flat_map f) (take-append-drop k all)
    in
    subst Q (append_assoc done (flat_map f (take k all)) (flat_map f (drop k all))
    ∙ ap (λ l. done ++ l) pieces)
    (filled_behind library top slots twice (done ++ flat_map f (take k all))
    (flat_map f (drop k all)) e h)

-- the codes, once all drivings were gone through
pub driven_twice : (library : List ModelOf) (top : ℕ) (slots : List (Option DriverOf)) (s : ℕ)
    → IsFilled library top slots (Some s) (drivings library top) → is_driven_twice library top
    ≡ true
unfolding is_driven_twice
driven_twice library top slots s h =
    let known = h.again s refl in
    some_place (λ s. nat_lt 1 (length (sources library top s))) (signals library top) s known.0
    (lt-ltb 1 (length (sources library top (signal_at library top s)))
    (first_driven_twice library top (drivings library top) (signal_at library top s) known.1))

pub none_place : (p : SignalOf → Bool) (xs : List SignalOf) → ((i : ℕ) → i < length xs
    → p (get_or xs i no_signal) ≡ false) → list_any p xs ≡ false
none_place p [] h = refl
none_place p (x ∷ xs) h = rw (h 0 (omega arith), none_place p xs (λ i k. h (suc i) (omega arith)))
    refl

pub not_driven_twice : (library : List ModelOf) (top : ℕ) (slots : List (Option DriverOf))
    → IsFilled library top slots None (drivings library top) → is_driven_twice library top ≡ false
unfolding is_driven_twice
not_driven_twice library top slots h = none_place (λ s. nat_lt 1 (length (sources library top s)))
    (signals library top) (λ i k.
    le-ltb 1 (length (sources library top (signal_at library top i))) (one_each library top slots
    (drivings library top) h i k))

pub undriven : (library : List ModelOf) (top : ℕ) (slots : List (Option DriverOf)) (s : ℕ)
    → IsFilled library top slots None (drivings library top) → s < length slots
    → slice_index_or slots s None ≡ None
    → is_undriven library top ≡ true
unfolding is_undriven
undriven library top slots s h inside free =
    let none : sources library top (signal_at library top s) ≡ [] = h.once refl s inside
    ∙ ap (λ o. map (source_of (signal_at library top) (all_rows library)) (in_slot o)) free in
    some_place (λ s. length (sources library top s) == 0) (signals library top) s
    (omega (arith, h.size, inside)) (rw none refl)

-- where every slot is taken, each signal has the one driver in its slot
pub sourced : (library : List ModelOf) (top : ℕ) (slots : List (Option DriverOf)) (s : ℕ)
    (driver : DriverOf)
    → IsFilled library top slots None (drivings library top) → s < length slots
    → slice_index_or slots s None ≡ Some driver
    → sources library top (signal_at library top s) ≡ source_of (signal_at library top)
    (all_rows library) driver ∷ []
sourced library top slots s driver h inside taken = h.once refl s inside
    ∙ ap (λ o. map (source_of (signal_at library top) (all_rows library)) (in_slot o)) taken

pub not_undriven : (library : List ModelOf) (top : ℕ) (drivers : List DriverOf)
    → IsFilled library top (map Some drivers) None (drivings library top) → is_undriven library top
    ≡ false
unfolding is_undriven
not_undriven library top drivers h = none_place (λ s. length (sources library top s) == 0)
    (signals library top) (λ i k.
    let inside : i < length drivers =
    omega (arith, h.size, k, length-map drivers (λ (d : DriverOf). Some d)) in
    let room : i < length (map (λ (d : DriverOf). Some d) drivers) = omega (arith, h.size, k) in
    let taken : slice_index_or (map (λ (d : DriverOf). Some d) drivers) i None
    ≡ Some (slice_index_or drivers i (input 0)) = get_or-map (λ (d : DriverOf). Some d) drivers
    i (input 0) None inside in
    rw (sourced library top (map (λ (d : DriverOf). Some d) drivers) i (slice_index_or drivers i
    (input 0)) h room taken) refl)

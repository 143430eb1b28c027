-- The values of flat signals by the hierarchy are those of the numbered signals.
use Rattle.std.proofs.Common.{◌≡◌, ℕ, zero, suc, ◌<◌, inl, inr, Bool, true, false, ◌||◌, ◌&&◌, List}
use Rattle.std.proofs.Common.{[], ◌∷◌, length, map, get_or, refl, sym, ◌∙◌, ap, subst, arith}
use Rattle.std.proofs.Common.{Option, Some, None}
use Rattle.std.specs.Prelude.{slice_get, is_none, unwrap_or}
use Rattle.std.specs.List.{list_all, list_any}
use Rattle.std.specs.Option.{option_map, option_and_then}
use Rattle.std.proofs.lemmas.Bool.{true≢false, and_parts}
use Rattle.eqc_blif.specs.Netlist.{ModelOf}
use Rattle.eqc_netlist.specs.Graph.{DriverOf, input, tie, cover, FlatOf, driver_at, dependencies}
use Rattle.eqc_netlist.specs.Graph.{driven, settled, value_of}
use Rattle.eqc_netlist.specs.Dependency.{ends_within}
use Rattle.eqc_hierarchy.specs.Signals.{SignalOf, signals, sources, needs, all_some, made, value_at}
use Rattle.eqc_hierarchy.specs.Signals.{output_value}
use Rattle.eqc_hierarchy.specs.Codes.{is_cyclic}
use Rattle.eqc_flat.specs.Flattened.{no_signal, signal_at, source_of}
use Rattle.eqc_hierarchy.proofs.Distinct.{Member}

-- each signal of a numbered list has the driver that the hierarchy gives it, and depends on signals
-- of the list
pub record IsSourced (library : List ModelOf) (top : ℕ) (f : FlatOf) : Type 0 where
  pub size : length f.drivers ≡ length (signals library top)
  pub sourced : (s : ℕ) → s < length f.drivers → sources library top (signal_at library top s)
      ≡ source_of (signal_at library top) f.rows (driver_at f s) ∷ []
  pub closed : (s x : ℕ) → s < length f.drivers → Member x (dependencies (driver_at f s))
      → x < length f.drivers

-- what each signal depends on
abbrev pub depends : FlatOf → ℕ → List ℕ
depends f s = dependencies (driver_at f s)

needs_source : (at : ℕ → SignalOf) (rows : List (List (List ℕ))) (driver : DriverOf)
    → needs (source_of at rows driver) ≡ map at (dependencies driver)
needs_source at rows (input position) = refl
needs_source at rows (tie other) = refl
needs_source at rows (cover columns r) = refl

made_driven : (at : ℕ → SignalOf) (rows : List (List (List ℕ))) (a v : ℕ → Bool) (driver : DriverOf)
    → made a (source_of at rows driver) (map v (dependencies driver)) ≡ driven rows a v driver
made_driven at rows a v (input position) = refl
made_driven at rows a v (tie other) = refl
made_driven at rows a v (cover columns r) = refl

-- where all have values, these are all
all_there : (at : ℕ → SignalOf) (value : SignalOf → Option Bool) (v : ℕ → Bool) (xs : List ℕ)
    → ((x : ℕ) → Member x xs → value (at x) ≡ Some (v x)) → all_some (map value (map at xs))
    ≡ Some (map v xs)
all_there at value v [] h = refl
all_there at value v (x ∷ xs) h = rw (h x (inl refl), all_there at value v xs (λ z k. h z (inr k)))
    refl

-- where one has no value, not all have
some_missing : (at : ℕ → SignalOf) (value : SignalOf → Option Bool) (test : ℕ → Bool) (xs : List ℕ)
    → ((x : ℕ) → Member x xs → test x ≡ false → value (at x) ≡ None) → list_all test xs ≡ false
    → all_some (map value (map at xs)) ≡ None
some_missing at value test [] h e = absurd (true≢false e)
some_missing at value test (x ∷ xs) h e =
    by_test (test x) refl (some_missing at value test xs (λ z k. h z (inr k)))
  where
    skip : (o : Option Bool) (rest : List (Option Bool)) → all_some rest ≡ None
        → all_some (o ∷ rest) ≡ None
    skip None rest k = refl
    skip (Some v) rest k = rw k refl

    by_test : (b : Bool) → test x ≡ b → (list_all test xs ≡ false → all_some (map value (map at xs))
        ≡ None) → all_some (map value (map at (x ∷ xs))) ≡ None
    by_test false k up = rw (h x (inl refl) k) refl
    by_test true k up = skip (value (at x)) (map value (map at xs))
        (up (let now : (test x && list_all test xs) ≡ false = e in rw k at now))

member_all : (p : ℕ → Bool) (xs : List ℕ) (x : ℕ) → list_all p xs ≡ true → Member x xs → p x ≡ true
member_all p [] x e h = absurd h
member_all p (z ∷ xs) x e (inl same) = let P : ℕ → Type 0 = λ w. p w ≡ true in
    subst P same ((and_parts (p z) (list_all p xs) e).0)
member_all p (z ∷ xs) x e (inr there) = member_all p xs x ((and_parts (p z) (list_all p xs) e).1)
    there

at_zero : (library : List ModelOf) (top : ℕ) (a : ℕ → Bool) (s : SignalOf)
    → value_at library top a zero s ≡ None
unfolding value_at
at_zero library top a s = refl

-- the value of a signal one deeper, by its driver
deeper : (library : List ModelOf) (top : ℕ) (f : FlatOf) → IsSourced library top f
    → (a : ℕ → Bool) (d s : ℕ)
    → s < length f.drivers
    → value_at library top a (suc d) (signal_at library top s)
    ≡ option_map (made a (source_of (signal_at library top) f.rows (driver_at f s)))
    (all_some (map (value_at library top a d) (map (signal_at library top) (depends f s))))
unfolding value_at
deeper library top f h a d s inside =
    ap (λ all. option_and_then (λ source. option_map (made a source)
    (all_some (map (value_at library top a d) (needs source)))) (slice_get all 0))
    (h.sourced s inside)
    ∙ ap
    (λ on. option_map (made a (source_of (signal_at library top) f.rows (driver_at f s)))
    (all_some (map (value_at library top a d) on)))
    (needs_source (signal_at library top) f.rows (driver_at f s))

-- a signal whose dependencies end within a depth has the settled value at that depth
pub value_there : (library : List ModelOf) (top : ℕ) (f : FlatOf) → IsSourced library top f
    → (a : ℕ → Bool) (d s : ℕ)
    → s < length f.drivers → ends_within (depends f) d s ≡ true
    → value_at library top a d (signal_at library top s) ≡ Some (settled f a d s)
unfolding settled
value_there library top f h a zero s inside e = absurd (true≢false (sym e))
value_there library top f h a (suc d) s inside e =
    deeper library top f h a d s inside
    ∙ (ap (λ all. option_map (made a (source_of (signal_at library top) f.rows (driver_at f s)))
    all)
    (all_there (signal_at library top) (value_at library top a d) (settled f a d) (depends f s)
    (λ x k. value_there library top f h a d x (h.closed s x inside k)
    (member_all (ends_within (depends f) d) (depends f s) x e k)))
    ∙ ap Some (made_driven (signal_at library top) f.rows a (settled f a d) (driver_at f s)))

-- a signal whose dependencies don't end within a depth has no value at that depth
pub value_none : (library : List ModelOf) (top : ℕ) (f : FlatOf) → IsSourced library top f
    → (a : ℕ → Bool) (d s : ℕ)
    → s < length f.drivers → ends_within (depends f) d s ≡ false
    → value_at library top a d (signal_at library top s) ≡ None
value_none library top f h a zero s inside e = at_zero library top a (signal_at library top s)
value_none library top f h a (suc d) s inside e =
    deeper library top f h a d s inside
    ∙ ap (λ all. option_map (made a (source_of (signal_at library top) f.rows (driver_at f s))) all)
    (some_missing (signal_at library top) (value_at library top a d) (ends_within (depends f) d)
    (depends f s) (λ x k. value_none library top f h a d x (h.closed s x inside k)) e)

none_pass : {X : Type 0} (p : X → Bool) (xs : List X) (d : X) → ((i : ℕ) → i < length xs
    → p (get_or xs i d) ≡ false) → list_any p xs ≡ false
none_pass p [] d h = refl
none_pass p (x ∷ xs) d h = rw (h 0 (omega arith), none_pass p xs d (λ i k. h (suc i) (omega arith)))
    refl

some_pass : {X : Type 0} (p : X → Bool) (xs : List X) (i : ℕ) (d : X) → i < length xs
    → p (get_or xs i d) ≡ true → list_any p xs ≡ true
some_pass p [] i d h e = absurd (omega arith)
some_pass p (x ∷ xs) zero d h e = rw e refl
some_pass p (x ∷ xs) (suc i) d h e = rw (some_pass p xs i d (omega arith) e) (or_true (p x))
  where
    or_true : (b : Bool) → (b || true) ≡ true
    or_true true = refl
    or_true false = refl

-- where all dependencies end, no signal depends on itself
pub not_cyclic : (library : List ModelOf) (top : ℕ) (f : FlatOf) → IsSourced library top f
    → ((s : ℕ) → s < length f.drivers → ends_within (depends f) (length f.drivers) s ≡ true)
    → is_cyclic library top ≡ false
unfolding is_cyclic
not_cyclic library top f h ends =
    none_pass (λ s. is_none (value_at library top (λ _. false) (length (signals library top)) s))
    (signals library top) no_signal (λ s k.
    let inside : s < length f.drivers = omega (arith, h.size, k) in
    let P : ℕ → Type 0 = λ n. value_at library top (λ _. false) n (signal_at library top s)
    ≡ Some (settled f (λ _. false) (length f.drivers) s) in
    ap is_none (subst P h.size (value_there library top f h (λ _. false) (length f.drivers) s inside
    (ends s inside))))

-- where one signal's dependencies never end, the netlist has a circle
pub cyclic : (library : List ModelOf) (top : ℕ) (f : FlatOf) → IsSourced library top f → (s : ℕ)
    → s < length f.drivers → ((d : ℕ) → ends_within (depends f) d s ≡ false) → is_cyclic library top
    ≡ true
unfolding is_cyclic
cyclic library top f h s inside never =
    some_pass (λ s. is_none (value_at library top (λ _. false) (length (signals library top)) s))
    (signals library top) s no_signal
    (omega (arith, h.size, inside))
    (ap is_none (value_none library top f h (λ _. false) (length (signals library top)) s inside
    (never (length (signals library top)))))

-- the value of an output, by its signal
pub output_there : (library : List ModelOf) (top : ℕ) (f : FlatOf) → IsSourced library top f
    → (a : ℕ → Bool) (s : ℕ) (name : List ℕ) → s < length f.drivers
    → ends_within (depends f) (length f.drivers) s ≡ true
    → signal_at library top s ≡ record { path = []; name = name }
    → value_of f a s ≡ output_value library top a name
unfolding output_value value_of
output_there library top f h a s name inside ends same =
    let P : ℕ → Type 0 = λ n. value_at library top a n (signal_at library top s)
    ≡ Some (settled f a (length f.drivers) s) in
    let value : value_at library top a (length (signals library top)) (signal_at library top s)
    ≡ Some (settled f a (length f.drivers) s) =
    subst P h.size (value_there library top f h a (length f.drivers) s inside ends) in
    let Q : SignalOf → Type 0 = λ x. settled f a (length f.drivers) s
    ≡ unwrap_or (value_at library top a (length (signals library top)) x) false in
    subst Q same (sym (ap (λ o. unwrap_or o false) value))

-- Values of flat signals at greater depths, and under other values of the inputs.
use Rattle.std.proofs.Common.{◌≡◌, ℕ, zero, suc, ◌+◌, ◌<◌, ◌⊎◌, inl, inr, Bool, true, false, ◌||◌}
use Rattle.std.proofs.Common.{List, [], ◌∷◌, length, map, get_or, refl, sym, ◌∙◌, ap, arith, Option}
use Rattle.std.proofs.Common.{Some, None, zero-add}
use Rattle.std.specs.Prelude.{slice_get, is_none, is_some}
use Rattle.std.specs.List.{list_any}
use Rattle.std.specs.Option.{option_map, option_and_then}
use Rattle.std.proofs.lemmas.Bool.{true≢false}
use Rattle.eqc_blif.specs.Netlist.{ModelOf}
use Rattle.eqc_hierarchy.specs.Signals.{SignalOf, SourceOf, signals, sources, needs, all_some, made}
use Rattle.eqc_hierarchy.specs.Signals.{value_at}
use Rattle.eqc_flat.specs.Flattened.{no_signal, signal_at}
use Rattle.eqc_hierarchy.specs.Codes.{
  has_no_such_model,
  is_recursive,
  has_unknown_formal,
  has_formal_twice,
  has_missing_formal,
  is_too_large,
  has_many_inputs,
  is_driven_twice,
  is_undriven,
  is_cyclic,
  code_if,
  flat_code,
}
use Rattle.eqc_flat.specs.ValueLaws.{ValuesStay, ValuesAreThereForAll, AcceptedHaveValues}

-- where each value stays, all values stay
all_stay : (f g : SignalOf → Option Bool) (xs : List SignalOf) (vs : List Bool)
    → ((x : SignalOf) (v : Bool) → f x ≡ Some v → g x ≡ Some v) → all_some (map f xs) ≡ Some vs
    → all_some (map g xs) ≡ Some vs
all_stay f g [] vs h e = e
all_stay f g (x ∷ xs) vs h e = by_value (λ ws m. all_stay f g xs ws h m) (f x) refl
    (all_some (map f xs)) refl
  where
    by_value : ((ws : List Bool) → all_some (map f xs) ≡ Some ws → all_some (map g xs) ≡ Some ws)
        → (o : Option Bool) → f x ≡ o
        → (rest : Option (List Bool)) → all_some (map f xs) ≡ rest → all_some (map g (x ∷ xs))
        ≡ Some vs
    by_value up None k rest m = absurd (let none : None ≡ Some vs =
        sym (ap (λ (o : Option Bool). all_some (o ∷ map f xs)) k) ∙ e in cc)
    by_value up (Some v) k None m = absurd (let none : None ≡ Some vs =
        sym (ap (λ (o : Option Bool). all_some (o ∷ map f xs)) k ∙ ap (option_map (λ vs. v ∷ vs)) m)
        ∙ e in cc)
    by_value up (Some v) k (Some ws) m =
        let is : Some (v ∷ ws) ≡ Some vs = sym (ap (λ (o : Option Bool). all_some (o ∷ map f xs)) k
        ∙ ap (option_map (λ vs. v ∷ vs)) m) ∙ e in
        ap (λ (o : Option Bool). all_some (o ∷ map g xs)) (h x v k)
        ∙ (ap (option_map (λ vs. v ∷ vs)) (up ws m) ∙ is)

-- what is made of the values stays
made_stay : (a : ℕ → Bool) (f g : SignalOf → Option Bool) (source : SourceOf) (v : Bool)
    → ((x : SignalOf) (v : Bool) → f x ≡ Some v → g x ≡ Some v)
    → option_map (made a source) (all_some (map f (needs source))) ≡ Some v
    → option_map (made a source) (all_some (map g (needs source))) ≡ Some v
made_stay a f g source v h e = by_values (all_some (map f (needs source))) refl
  where
    by_values : (o : Option (List Bool)) → all_some (map f (needs source)) ≡ o
        → option_map (made a source) (all_some (map g (needs source))) ≡ Some v
    by_values None k = absurd (let none : None ≡ Some v = sym (ap (option_map (made a source)) k)
        ∙ e in cc)
    by_values (Some vs) k = ap (option_map (made a source)) (all_stay f g (needs source) vs h k)
        ∙ (sym (ap (option_map (made a source)) k) ∙ e)

-- a value at a depth is that at the next
next_depth : (library : List ModelOf) (top : ℕ) (a : ℕ → Bool) (d : ℕ) (s : SignalOf) (v : Bool)
    → value_at library top a d s ≡ Some v → value_at library top a (suc d) s ≡ Some v
unfolding value_at
next_depth library top a zero s v e = absurd (let none : None ≡ Some v = e in cc)
next_depth library top a (suc d) s v e =
    by_source (slice_get (sources library top s) 0) (made_stay a (value_at library top a d)
    (value_at library top a (suc d)))
    (λ x w k. next_depth library top a d x w k) e
  where
    by_source : (o : Option SourceOf)
        → ((source : SourceOf) (v : Bool)
        → ((x : SignalOf) (v : Bool) → value_at library top a d x ≡ Some v
        → value_at library top a (suc d) x ≡ Some v)
        → option_map (made a source) (all_some (map (value_at library top a d) (needs source)))
        ≡ Some v
        → option_map (made a source) (all_some (map (value_at library top a (suc d))
        (needs source))) ≡ Some v)
        → ((x : SignalOf) (v : Bool) → value_at library top a d x ≡ Some v
        → value_at library top a (suc d) x ≡ Some v)
        → option_and_then (λ source. option_map (made a source)
        (all_some (map (value_at library top a d) (needs source)))) o ≡ Some v
        → option_and_then (λ source. option_map (made a source)
        (all_some (map (value_at library top a (suc d)) (needs source)))) o ≡ Some v
    by_source None stay up k = k
    by_source (Some source) stay up k = stay source v up k

pub values_stay : ValuesStay
values_stay library top a d zero s v e = rw zero-add e
values_stay library top a d (suc more) s v e =
    let up : value_at library top a (suc (more + d)) s ≡ Some v =
    next_depth library top a (more + d) s v (values_stay library top a d more s v e) in
    let same : suc more + d ≡ suc (more + d) = omega arith in
    rw same up

some_all : (f g : SignalOf → Option Bool) (xs : List SignalOf)
    → ((x : SignalOf) → is_some (f x) ≡ is_some (g x)) → is_some (all_some (map f xs))
    ≡ is_some (all_some (map g xs))
some_all f g [] h = refl
some_all f g (x ∷ xs) h = by_values (f x) (g x) (h x) (all_some (map f xs)) (all_some (map g xs))
    refl refl (some_all f g xs h)
  where
    by_values : (o p : Option Bool) → is_some o ≡ is_some p → (r t : Option (List Bool))
        → all_some (map f xs) ≡ r
        → all_some (map g xs) ≡ t → is_some (all_some (map f xs)) ≡ is_some (all_some (map g xs))
        → is_some (all_some (o ∷ map f xs)) ≡ is_some (all_some (p ∷ map g xs))
    by_values None None e r t k m same = refl
    by_values None (Some w) e r t k m same = absurd (true≢false (sym e))
    by_values (Some v) None e r t k m same = absurd (true≢false e)
    by_values (Some v) (Some w) e r t k m same = mapped v (all_some (map f xs))
        ∙ (same ∙ sym (mapped w (all_some (map g xs))))
      where
        mapped : (v : Bool) (o : Option (List Bool)) → is_some (option_map (λ vs. v ∷ vs) o)
            ≡ is_some o
        mapped v None = refl
        mapped v (Some vs) = refl

pub values_are_there_for_all : ValuesAreThereForAll
unfolding value_at
values_are_there_for_all library top a b zero s = refl
values_are_there_for_all library top a b (suc d) s =
    by_source (slice_get (sources library top s) 0)
    (λ source.
    some_all (value_at library top a d) (value_at library top b d) (needs source)
    (λ x. values_are_there_for_all library top a b d x))
  where
    mapped : (f : List Bool → Bool) (o : Option (List Bool)) → is_some (option_map f o) ≡ is_some o
    mapped f None = refl
    mapped f (Some vs) = refl

    by_source : (o : Option SourceOf)
        → ((source : SourceOf)
        → is_some (all_some (map (value_at library top a d) (needs source)))
        ≡ is_some (all_some (map (value_at library top b d) (needs source))))
        → is_some (option_and_then (λ source. option_map (made a source)
        (all_some (map (value_at library top a d) (needs source)))) o)
        ≡ is_some
        (option_and_then (λ source. option_map (made b source)
        (all_some (map (value_at library top b d) (needs source)))) o)
    by_source None h = refl
    by_source (Some source) h =
        mapped (made a source) (all_some (map (value_at library top a d) (needs source)))
        ∙ (h source ∙ sym (mapped (made b source)
        (all_some (map (value_at library top b d) (needs source)))))

-- a condition whose code does not apply does not hold
pub no_code : (o : Option ℕ) (condition : Bool) (code : ℕ) (later : Option ℕ) → (Some code ≡ o → ⊥)
    → code_if condition code later ≡ o → (condition ≡ false) × (later ≡ o)
no_code o true code later other e = absurd (other e)
no_code o false code later other e = (refl, e)

none_passes : (p : SignalOf → Bool) (xs : List SignalOf) (k : ℕ) → list_any p xs ≡ false
    → k < length xs → p (get_or xs k no_signal) ≡ false
none_passes p [] k e h = absurd (omega arith)
none_passes p (x ∷ xs) zero e h = first (p x) (list_any p xs) e
  where
    first : (a b : Bool) → (a || b) ≡ false → a ≡ false
    first false b k = refl
    first true b k = absurd (true≢false k)
none_passes p (x ∷ xs) (suc k) e h = none_passes p xs k (rest (p x) (list_any p xs) e) (omega arith)
  where
    rest : (a b : Bool) → (a || b) ≡ false → b ≡ false
    rest false b k = k
    rest true b k = absurd (true≢false k)

-- what holds where no code but 28 applies
pub record HasNoOtherCode (library : List ModelOf) (top : ℕ) (o : Option ℕ) : Type 0 where
  pub not_recursive : is_recursive library top ≡ false
  pub formals_known : has_unknown_formal library top ≡ false
  pub driven_once : is_driven_twice library top ≡ false
  pub driven : is_undriven library top ≡ false
  pub left : code_if (is_cyclic library top) 28 None ≡ o

pub no_other_code : (library : List ModelOf) (top limit : ℕ) (o : Option ℕ) → (o ≡ None)
    ⊎ (o ≡ Some 28) → flat_code library top limit ≡ o → HasNoOtherCode library top o
unfolding flat_code
no_other_code library top limit o kind e =
    let a = no_code o (has_no_such_model library top) 21 _ (other 21 (λ k. omega (arith, k))) e in
    let b = no_code o (is_recursive library top) 22 _ (other 22 (λ k. omega (arith, k))) a.1 in
    let c = no_code o (has_unknown_formal library top) 23 _ (other 23 (λ k. omega (arith, k))) b.1
    in
    let d = no_code o (has_formal_twice library top) 24 _ (other 24 (λ k. omega (arith, k))) c.1 in
    let f = no_code o (has_missing_formal library top) 25 _ (other 25 (λ k. omega (arith, k))) d.1
    in
    let g = no_code o (is_too_large library top) 29 _ (other 29 (λ k. omega (arith, k))) f.1 in
    let h = no_code o (has_many_inputs library top limit) 30 _ (other 30 (λ k. omega (arith, k)))
    g.1 in
    let i = no_code o (is_driven_twice library top) 26 _ (other 26 (λ k. omega (arith, k))) h.1 in
    let j = no_code o (is_undriven library top) 27 _ (other 27 (λ k. omega (arith, k))) i.1 in
    record { not_recursive = b.0; formals_known = c.0; driven_once = i.0; driven = j.0; left = j.1 }
  where
    other : (code : ℕ) → (code ≡ 28 → ⊥) → Some code ≡ o → ⊥
    other code apart is = by kind
      where
        by : (o ≡ None) ⊎ (o ≡ Some 28) → ⊥
        by (inl none) = absurd (let same : Some code ≡ None = is ∙ none in cc)
        by (inr some) = apart (let same : Some code ≡ Some 28 = is ∙ some in inside same)
          where
            inside : Some code ≡ Some 28 → code ≡ 28
            inside e = cc

not_cyclic_code : (library : List ModelOf) (top limit : ℕ) → flat_code library top limit ≡ None
    → is_cyclic library top ≡ false
not_cyclic_code library top limit e =
    (no_code None (is_cyclic library top) 28 None (λ k. absurd (let some : Some 28 ≡ None = k in
    cc)) (no_other_code library top limit None (inl refl) e).left).0

pub accepted_have_values : AcceptedHaveValues
unfolding is_cyclic
accepted_have_values library top limit e a s inside =
    values_are_there_for_all library top a (λ _. false) (length (signals library top))
    (signal_at library top s)
    ∙ there (value_at library top (λ _. false) (length (signals library top)) (signal_at library top
    s))
    (none_passes (λ s. is_none (value_at library top (λ _. false) (length (signals library top)) s))
    (signals library top) s
    (not_cyclic_code library top limit e) inside)
  where
    there : (o : Option Bool) → is_none o ≡ false → is_some o ≡ true
    there None k = absurd (true≢false k)
    there (Some v) k = refl

-- Values of flat signals depend on the values of the inputs alone.
use Rattle.std.proofs.Common.{◌≡◌, ℕ, zero, suc, ◌+◌, ◌<◌, ◌≤◌, inl, inr, Bool, true, false, List}
use Rattle.std.proofs.Common.{[], ◌∷◌, length, map, refl, ◌∙◌, ap, subst, arith, Option, Some, None}
use Rattle.std.proofs.Common.{if◌then◌else◌}
use Rattle.std.specs.Prelude.{filter, slice_get, unwrap_or}
use Rattle.std.specs.List.{flat_map, enumerate_from}
use Rattle.std.specs.Option.{option_map, option_and_then}
use Rattle.eqc_blif.specs.Netlist.{ModelOf, InstanceOf}
use Rattle.eqc_netlist.specs.Names.{is_named}
use Rattle.eqc_hierarchy.specs.Hierarchy.{model, model_at, paths}
use Rattle.eqc_hierarchy.specs.Signals.{
  SignalOf,
  same_signal,
  SourceOf,
  from_signal,
  from_cover,
  Driving,
  input_drivings,
  cover_driving,
  pair_driving,
  instance_drivings,
  drivings_at,
  drivings,
  sources_in,
  sources,
  needs,
  all_some,
  made,
  value_at,
}
use Rattle.eqc_flat.specs.ValueLaws.{ValuesDependOnInputsAlone, CoversDependOnColumnsAlone}
use Rattle.eqc_hierarchy.proofs.Distinct.{Member, member_append, member_of_map, all_pieces}

-- a source that makes the same under two assignments, whatever values the signals have
abbrev IsSame : (ℕ → Bool) → (ℕ → Bool) → SourceOf → Type 0
IsSame a b source = (vs : List Bool) → made a source vs ≡ made b source vs

-- inputs that are numbered from n on
inputs_same : (a b : ℕ → Bool) (n : ℕ) (names : List (List ℕ))
    → ((k : ℕ) → n ≤ k → k < n + length names → a k ≡ b k)
    → (d : Driving) → Member d (input_drivings (enumerate_from n names)) → IsSame a b d.1
inputs_same a b n [] h d e = absurd e
inputs_same a b n (x ∷ names) h d (inl same) = let P : Driving → Type 0 = λ d. IsSame a b d.1 in
    subst P same (λ vs. h n (omega arith) (omega arith))
inputs_same a b n (x ∷ names) h d (inr there) =
    inputs_same a b (n + 1) names (λ k low high. h k (omega (arith, low)) (omega (arith, high))) d
    there

pair_same : (a b : ℕ → Bool) (path : List ℕ) (p : ℕ) (callee : ModelOf) (pair : List ℕ × List ℕ)
    → IsSame a b (pair_driving path p callee pair).1
pair_same a b path p callee pair = λ vs. by_test vs (is_named callee.inputs pair.0)
  where
    by_test : (vs : List Bool) (t : Bool) →
        let formal : SignalOf = record { path = p ∷ path; name = pair.0 } in
        let actual : SignalOf = record { path = path; name = pair.1 } in
        let driving : Driving = if t then (formal, from_signal actual) else (
          actual,
          from_signal formal,
        ) in
        made a driving.1 vs ≡ made b driving.1 vs
    by_test vs true = refl
    by_test vs false = refl

-- covers and pairs look at no input
at_same : (a b : ℕ → Bool) (library : List ModelOf) (top : ℕ) (path : List ℕ) (d : Driving)
    → Member d (drivings_at library top path) → IsSame a b d.1
at_same a b library top path d e =
    let P : Driving → Type 0 = λ d. IsSame a b d.1 in
    let m : ModelOf = model library (model_at library top path) in
    elim (member_append d (map (cover_driving path) m.covers)
    (flat_map (instance_drivings library top path) (enumerate_from 0 m.instances)) e) [
      | inl here ↦ (let (c, _there, same) = member_of_map (cover_driving path) d m.covers here in
          subst P same (λ vs. refl))
      | inr there ↦ all_pieces P (instance_drivings library top path) (enumerate_from 0 m.instances)
          (λ at y _at here. of_pair at y here) d there
    ]
  where
    of_pair : (at : ℕ × InstanceOf) (y : Driving) → Member y (instance_drivings library top path at)
        → IsSame a b y.1
    of_pair at y here =
        let P : Driving → Type 0 = λ d. IsSame a b d.1 in
        let callee : ModelOf = model library (model_at library top (at.0 ∷ path)) in
        let (pair, _there, same) = member_of_map (pair_driving path at.0 callee) y at.1.pairs here
        in
        subst P same (pair_same a b path at.0 callee pair)

all_same : (a b : ℕ → Bool) (library : List ModelOf) (top : ℕ)
    → ((k : ℕ) → k < length (model library top).inputs → a k ≡ b k) → (d : Driving)
    → Member d (drivings library top) → IsSame a b d.1
unfolding drivings
all_same a b library top h d e =
    let P : Driving → Type 0 = λ d. IsSame a b d.1 in
    elim (member_append d (input_drivings (enumerate_from 0 (model library top).inputs))
    (flat_map (drivings_at library top) (paths library top)) e) [
      | inl here ↦ inputs_same a b 0 (model library top).inputs
          (λ k low high. h k (omega (arith, high))) d here
      | inr there ↦ all_pieces P (drivings_at library top) (paths library top)
          (λ path y _path here. at_same a b library top path y here) d there
    ]

-- the first of the sources of a signal, where all make the same
first_same : (a b : ℕ → Bool) (ds : List Driving) (s : SignalOf) → ((d : Driving) → Member d ds
    → IsSame a b d.1)
    → (source : SourceOf) → slice_get (sources_in ds s) 0 ≡ Some source → IsSame a b source
first_same a b [] s h source e = absurd (let none : None ≡ Some source = e in cc)
first_same a b (d ∷ ds) s h source e = by_test (first_same a b ds s (λ y k. h y (inr k)) source)
    (same_signal d.0 s) e
  where
    by_test : (slice_get (sources_in ds s) 0 ≡ Some source → IsSame a b source) → (t : Bool) →
        let rest : List Driving = filter (λ (d : Driving). same_signal d.0 s) ds in
        slice_get (map (λ (d : Driving). d.1) (if t then d ∷ rest else rest)) 0 ≡ Some source
        → IsSame a b source
    by_test up true k = subst (IsSame a b) (ap (λ (o : Option SourceOf). unwrap_or o d.1) k)
        (h d (inl refl))
    by_test up false k = up k

map_same : (f g : SignalOf → Option Bool) (xs : List SignalOf) → ((x : SignalOf) → f x ≡ g x)
    → map f xs ≡ map g xs
map_same f g [] h = refl
map_same f g (x ∷ xs) h = rw (h x, map_same f g xs h) refl

pub values_depend_on_inputs_alone : ValuesDependOnInputsAlone
unfolding value_at
values_depend_on_inputs_alone library top a b h zero s = refl
values_depend_on_inputs_alone library top a b h (suc d) s =
    by_source (slice_get (sources library top s) 0) (first_same a b (drivings library top) s
    (all_same a b library top h))
    (λ x. values_depend_on_inputs_alone library top a b h d x)
  where
    mapped : (source : SourceOf) → IsSame a b source → (o : Option (List Bool))
        → option_map (made a source) o ≡ option_map (made b source) o
    mapped source same None = refl
    mapped source same (Some vs) = ap (λ (v : Bool). Some v) (same vs)

    by_source : (o : Option SourceOf) → ((source : SourceOf) → o ≡ Some source → IsSame a b source)
        → ((x : SignalOf) → value_at library top a d x ≡ value_at library top b d x)
        → option_and_then (λ source. option_map (made a source)
        (all_some (map (value_at library top a d) (needs source)))) o
        ≡ option_and_then (λ source. option_map (made b source)
        (all_some (map (value_at library top b d) (needs source)))) o
    by_source None same up = refl
    by_source (Some source) same up =
        mapped source (same source refl) (all_some (map (value_at library top a d) (needs source)))
        ∙ ap (λ (vs : List (Option Bool)). option_map (made b source) (all_some vs))
        (map_same (value_at library top a d) (value_at library top b d) (needs source) up)

pub covers_depend_on_columns_alone : CoversDependOnColumnsAlone
unfolding value_at
covers_depend_on_columns_alone library top a b d s columns rows source same =
    rw source
    (mapped (all_some (map (value_at library top a d) columns))
    ∙ ap (λ (vs : List (Option Bool)). option_map (made b (from_cover columns rows)) (all_some vs))
    same)
  where
    mapped : (o : Option (List Bool)) → option_map (made a (from_cover columns rows)) o
        ≡ option_map (made b (from_cover columns rows)) o
    mapped None = refl
    mapped (Some vs) = refl

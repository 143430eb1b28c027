-- What drives a flat signal needs flat signals alone, where instances don't recur and each formal
-- is a port.
use Rattle.std.proofs.Common.{◌≡◌, ℕ, suc, ◌+◌, ◌<◌, inl, inr, Bool, true, false, List, [], ◌∷◌}
use Rattle.std.proofs.Common.{◌++◌, length, map, get_or, refl, sym, ◌∙◌, ap, subst, arith}
use Rattle.std.proofs.Common.{if◌then◌else◌}
use Rattle.std.specs.Prelude.{filter}
use Rattle.std.specs.List.{flat_map, enumerate_from}
use Rattle.eqc_blif.specs.Netlist.{ModelOf, InstanceOf, CoverOf}
use Rattle.eqc_netlist.specs.Names.{is_named}
use Rattle.eqc_hierarchy.specs.Hierarchy.{model, model_number, model_at, paths}
use Rattle.eqc_hierarchy.specs.Signals.{
  SignalOf,
  same_signal,
  SourceOf,
  from_input,
  Driving,
  input_drivings,
  cover_driving,
  pair_driving,
  instance_drivings,
  drivings_at,
  drivings,
  sources_in,
  sources,
  needs,
  cover_names,
  actuals,
  signals,
}
use Rattle.eqc_hierarchy.specs.Codes.{is_recursive, has_unknown_formal}
use Rattle.eqc_flat.specs.HierarchyLaws.{IsInstance, inner, needed, occurring}
use Rattle.eqc_hierarchy.proofs.Distinct.{Member, member_append, member_left, member_right}
use Rattle.eqc_hierarchy.proofs.Distinct.{member_map, member_of_map, member_piece, all_pieces}
use Rattle.eqc_hierarchy.proofs.NamingLaws.{no_instance, member_named, named_member, callee_at}
use Rattle.eqc_hierarchy.proofs.NamingLaws.{callee_count, formal_there}
use Rattle.eqc_flat.proofs.ExpandedLaws.{growing}
use Rattle.eqc_flat.proofs.DrivingLaws.{pair_input, pair_output}
use Rattle.eqc_flat.proofs.SignalLaws.{there_instance, signal_member}

-- a driving of which all that its source needs are flat signals
abbrev NeedsSignals : List ModelOf → ℕ → Driving → Type 0
NeedsSignals library top d = (t : SignalOf) → Member t (needs d.1) → Member t (signals library top)

kept : (p : Driving → Bool) (d : Driving) (ds : List Driving) → Member d (filter p ds) → Member d ds
kept p d [] h = absurd h
kept p d (x ∷ ds) h = by_test (p x) h (kept p d ds)
  where
    by_test : (b : Bool) → Member d (if b then x ∷ filter p ds else filter p ds)
        → (Member d (filter p ds) → Member d ds) → Member d (x ∷ ds)
    by_test true (inl same) up = inl same
    by_test true (inr there) up = inr (up there)
    by_test false there up = inr (up there)

-- each source of a signal is that of a driving
source_driving : (ds : List Driving) (s : SignalOf) (source : SourceOf)
    → Member source (sources_in ds s) → (d : Driving) × Member d ds × (d.1 ≡ source)
source_driving ds s source h =
    let (d, there, same) = member_of_map (λ (d : Driving). d.1) source
    (filter (λ (d : Driving). same_signal d.0 s) ds) h in
    (d, kept (λ (d : Driving). same_signal d.0 s) d ds there, same)

-- an element of a numbered list stands at its number
numbered : (n : ℕ) (xs : List InstanceOf) (at : ℕ × InstanceOf) → Member at (enumerate_from n xs)
    → (k : ℕ) × (k < length xs) × (at.0 ≡ n + k) × (get_or xs k no_instance ≡ at.1) × Member at.1 xs
numbered n [] at h = absurd h
numbered n (x ∷ xs) at (inl same) =
    let number : n ≡ at.0 = ap (λ (p : ℕ × InstanceOf). p.0) same in
    let one : x ≡ at.1 = ap (λ (p : ℕ × InstanceOf). p.1) same in
    (0, omega arith, omega (arith, number), one, inl one)
numbered n (x ∷ xs) at (inr there) =
    let (k, inside, number, is, member) = numbered (n + 1) xs at there in
    (suc k, omega (arith, inside), omega (arith, number), is, inr member)

-- where a name occurs
in_cover : (m : ModelOf) (c : CoverOf) (name : List ℕ) → Member c m.covers → Member name c.columns
    → is_named (occurring m) name ≡ true
in_cover m c name there here =
    member_named name (occurring m)
    (member_left name (m.inputs ++ m.outputs ++ flat_map cover_names m.covers)
    (flat_map actuals m.instances)
    (member_right name (m.inputs ++ m.outputs) (flat_map cover_names m.covers)
    (member_piece cover_names m.covers c name there (member_left name c.columns (c.output ∷ [])
    here))))

as_actual : (m : ModelOf) (i : InstanceOf) (pair : List ℕ × List ℕ) → Member i m.instances
    → Member pair i.pairs → is_named (occurring m) pair.1 ≡ true
as_actual m i pair there here =
    member_named pair.1 (occurring m)
    (member_right pair.1 (m.inputs ++ m.outputs ++ flat_map cover_names m.covers)
    (flat_map actuals m.instances)
    (member_piece actuals m.instances i pair.1 there (member_map (λ (p : List ℕ × List ℕ). p.1) pair
    i.pairs here)))

as_port : (m : ModelOf) (name : List ℕ) → is_named (m.inputs ++ m.outputs) name ≡ true
    → is_named (occurring m) name ≡ true
as_port m name e =
    member_named name (occurring m)
    (member_left name (m.inputs ++ m.outputs ++ flat_map cover_names m.covers)
    (flat_map actuals m.instances)
    (member_left name (m.inputs ++ m.outputs) (flat_map cover_names m.covers)
    (named_member name (m.inputs ++ m.outputs) e)))

-- the model of an instance, by its position
model_below : (library : List ModelOf) (top p : ℕ) (path : List ℕ) (i : InstanceOf)
    → p < length (model library (model_at library top path)).instances
    → get_or (model library (model_at library top path)).instances p no_instance ≡ i
    → model_at library top (p ∷ path) ≡ model_number library i.model
unfolding model_at
model_below library top p path i inside is = callee_at library (model_at library top path) p inside
    ∙ ap (λ (one : InstanceOf). model_number library one.model) is

-- inputs need nothing
input_needs : (library : List ModelOf) (top : ℕ) (inputs : List (ℕ × List ℕ)) (d : Driving)
    → Member d (input_drivings inputs) → NeedsSignals library top d
input_needs library top inputs d h =
    let (input, _there, same) = member_of_map {Y = Driving} (λ (input : ℕ
    × List ℕ). (record { path = []; name = input.1 }, from_input input.0)) d inputs h in
    subst (NeedsSignals library top) same (λ t e. absurd e)

-- a cover needs its columns
cover_needs : (library : List ModelOf) (top : ℕ) (path : List ℕ) (c : CoverOf)
    → is_recursive library top ≡ false
    → IsInstance library top path → Member c (model library (model_at library top path)).covers
    → NeedsSignals library top (cover_driving path c)
cover_needs library top path c ends at there t e =
    let P : SignalOf → Type 0 = λ s. Member s (signals library top) in
    let (column, here, same) = member_of_map {Y = SignalOf} (λ (column : List ℕ). record {
      path =
          path;
      name = column;
    }) t c.columns e in
    subst P same (signal_member library top (record { path = path; name = column })
    (growing library top ends) at (in_cover (model library (model_at library top path)) c column
    there here))

-- a pair needs the signal at its other end
pair_needs : (library : List ModelOf) (top p : ℕ) (path : List ℕ) (i : InstanceOf) (pair : List ℕ
    × List ℕ)
    → is_recursive library top ≡ false → IsInstance library top path
    → p < length (model library (model_at library top path)).instances
    → model_at library top (p ∷ path) ≡ model_number library i.model
    → Member i (model library (model_at library top path)).instances → Member pair i.pairs
    → is_named ((model library (model_number library i.model)).inputs
    ++ (model library (model_number library i.model)).outputs) pair.0
    ≡ true
    → NeedsSignals library top
    (pair_driving path p (model library (model_at library top (p ∷ path))) pair)
pair_needs library top p path i pair ends at inside callee here there known =
    by (is_named (model library (model_at library top (p ∷ path))).inputs pair.0) refl
  where
    actual : Member (record { path = path; name = pair.1 }) (signals library top)
    actual = signal_member library top (record { path = path; name = pair.1 })
        (growing library top ends) at (as_actual (model library (model_at library top path)) i pair
        here there)

    below : IsInstance library top (p ∷ path)
    below = inner p path at (omega (
      arith,
      inside,
      callee_count library (model_at library top path),
    ))

    port : is_named (occurring (model library (model_at library top (p ∷ path)))) pair.0 ≡ true
    port = let P : ℕ → Type 0 = λ m. is_named (occurring (model library m)) pair.0 ≡ true in
        subst P (sym callee) (as_port (model library (model_number library i.model)) pair.0 known)

    formal : Member (record { path = p ∷ path; name = pair.0 }) (signals library top)
    formal = signal_member library top (record { path = p ∷ path; name = pair.0 })
        (growing library top ends) below port

    other_end : (s t : SignalOf) → Member s (signals library top) → Member t (s ∷ [])
        → Member t (signals library top)
    other_end s t h (inl same) = let P : SignalOf → Type 0 = λ x. Member x (signals library top) in
        subst P same h
    other_end s t h (inr none) = absurd none

    by : (b : Bool) → is_named (model library (model_at library top (p ∷ path))).inputs pair.0 ≡ b
        → NeedsSignals library top
        (pair_driving path p (model library (model_at library top (p ∷ path))) pair)
    by true e =
        subst (NeedsSignals library top)
        (sym (pair_input path p (model library (model_at library top (p ∷ path))) pair e))
        (λ t m. other_end (record { path = path; name = pair.1 }) t actual m)
    by false e =
        subst (NeedsSignals library top)
        (sym (pair_output path p (model library (model_at library top (p ∷ path))) pair e))
        (λ t m. other_end (record { path = p ∷ path; name = pair.0 }) t formal m)

-- what drives in an instance
here_needs : (library : List ModelOf) (top : ℕ) (path : List ℕ) (d : Driving)
    → is_recursive library top ≡ false
    → has_unknown_formal library top ≡ false → Member path (paths library top)
    → Member d (drivings_at library top path)
    → NeedsSignals library top d
here_needs library top path d ends known of h =
    elim (member_append d (map (cover_driving path) m.covers)
    (flat_map (instance_drivings library top path) (enumerate_from 0 m.instances)) h) [
      | inl cover ↦ (let (c, there, same) = member_of_map (cover_driving path) d m.covers cover in
          subst (NeedsSignals library top) same (cover_needs library top path c ends at there))
      | inr instance ↦ all_pieces (NeedsSignals library top) (instance_drivings library top path)
          (enumerate_from 0 m.instances) of_instance d instance
    ]
  where
    m : ModelOf
    m = model library (model_at library top path)

    at : IsInstance library top path
    at = there_instance library top (length library) path of

    of_instance : (one : ℕ × InstanceOf) (y : Driving) → Member one (enumerate_from 0 m.instances)
        → Member y (instance_drivings library top path one) → NeedsSignals library top y
    of_instance one y there here =
        let (k, inside, number, is, member) = numbered 0 m.instances one there in
        let (pair, in_pairs, same) =
        member_of_map (pair_driving path one.0
        (model library (model_at library top (one.0 ∷ path)))) y one.1.pairs here in
        let place : one.0 ≡ k = omega (arith, number) in
        let P : ℕ → Type 0 = λ n. get_or m.instances n no_instance ≡ one.1 in
        let less : one.0 < length m.instances = omega (arith, place, inside) in
        subst (NeedsSignals library top) same
        (pair_needs library top one.0 path one.1 pair ends at less
        (model_below library top one.0 path one.1 less (subst P (sym place) is)) member in_pairs
        (formal_there library top path one.1 pair known of member in_pairs))

all_needs : (library : List ModelOf) (top : ℕ) (d : Driving) → is_recursive library top ≡ false
    → has_unknown_formal library top ≡ false → Member d (drivings library top)
    → NeedsSignals library top d
unfolding drivings
all_needs library top d ends known h =
    elim (member_append d (input_drivings (enumerate_from 0 (model library top).inputs))
    (flat_map (drivings_at library top) (paths library top)) h) [
      | inl input ↦ input_needs library top (enumerate_from 0 (model library top).inputs) d input
      | inr inside ↦ all_pieces (NeedsSignals library top) (drivings_at library top)
          (paths library top) (λ path y of here. here_needs library top path y ends known of here) d
          inside
    ]

-- a signal depends on flat signals alone
pub needed_there : (library : List ModelOf) (top : ℕ) (s t : SignalOf) → is_recursive library top
    ≡ false
    → has_unknown_formal library top ≡ false → Member t (needed library top s)
    → Member t (signals library top)
needed_there library top s t ends known h =
    all_pieces (λ x. Member x (signals library top)) needs (sources library top s)
    (λ source y of here.
    let (d, there, same) = source_driving (drivings library top) s source of in
    let P : SourceOf → Type 0 = λ z. Member y (needs z) in
    all_needs library top d ends known there y (subst P (sym same) here)) t h

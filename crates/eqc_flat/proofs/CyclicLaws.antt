-- Where no other code applies, the condition of code 28 is that some flat signal depends on itself.
use Rattle.std.proofs.Common.{◌==◌, ◌≡◌, ℕ, zero, suc, ◌<◌, ◌⊎◌, inl, inr, Bool, true, false, ◌&&◌}
use Rattle.std.proofs.Common.{List, [], ◌∷◌, length, map, refl, sym, ◌∙◌, ap, subst, arith, Option}
use Rattle.std.proofs.Common.{Some, None, nat_lt}
use Rattle.std.specs.Prelude.{slice_get, is_none, is_some}
use Rattle.std.specs.List.{flat_map, list_all, list_any}
use Rattle.std.specs.Option.{option_map, option_and_then}
use Rattle.std.proofs.lemmas.Bool.{true≢false, lt-ltb, or_cases}
use Rattle.std.proofs.lemmas.List.{append-nil}
use Rattle.eqc_blif.specs.Netlist.{ModelOf}
use Rattle.eqc_hierarchy.specs.Signals.{SignalOf, same_signal, SourceOf, signals, sources, needs}
use Rattle.eqc_hierarchy.specs.Signals.{all_some, made, value_at}
use Rattle.eqc_hierarchy.specs.Codes.{is_driven_twice, is_undriven, is_cyclic, code_if, flat_code}
use Rattle.eqc_flat.specs.Flattened.{no_signal, signal_at}
use Rattle.eqc_flat.specs.HierarchyLaws.{Reaches, needed, CyclicWhereReached}
use Rattle.eqc_hierarchy.proofs.Distinct.{Member, member_get, member_place}
use Rattle.eqc_flat.proofs.NumberLaws.{signals_same, same_self}
use Rattle.eqc_flat.proofs.DepthLaws.{HasNoOtherCode, no_other_code, accepted_have_values}
use Rattle.eqc_hierarchy.proofs.NamingLaws.{none_member}
use Rattle.eqc_flat.proofs.NeedLaws.{needed_there}
use Rattle.eqc_flat.proofs.CircleLaws.{IsFinite, circle_found, never_ends}

-- whether a signal has a value at a depth
abbrev has_value : List ModelOf → ℕ → ℕ → SignalOf → Bool
has_value library top d s = is_some (value_at library top (λ _. false) d s)

-- all have values where each has one
each_some : (value : SignalOf → Option Bool) (xs : List SignalOf)
    → is_some (all_some (map value xs)) ≡ list_all (λ x. is_some (value x)) xs
each_some value [] = refl
each_some value (x ∷ xs) = by (value x) (all_some (map value xs)) refl (each_some value xs)
  where
    by : (o : Option Bool) (rest : Option (List Bool)) → all_some (map value xs) ≡ rest
        → is_some (all_some (map value xs)) ≡ list_all (λ x. is_some (value x)) xs
        → is_some (all_some (o ∷ map value xs)) ≡ (is_some o && list_all (λ x. is_some (value x))
        xs)
    by None rest is up = refl
    by (Some v) None is up = ap (λ vs. is_some (option_map (λ ws. v ∷ ws) vs)) is
        ∙ (sym (ap is_some is) ∙ up)
    by (Some v) (Some vs) is up = ap (λ vs. is_some (option_map (λ ws. v ∷ ws) vs)) is
        ∙ (sym (ap is_some is) ∙ up)

-- a signal with one source has a value where all that it depends on have one a step earlier
value_next : (library : List ModelOf) (top d : ℕ) (s : SignalOf) (source : SourceOf)
    → sources library top s ≡ source ∷ []
    → has_value library top (suc d) s ≡ list_all (has_value library top d) (needed library top s)
unfolding value_at
value_next library top d s source e =
    let value : SignalOf → Option Bool = value_at library top (λ _. false) d in
    let same : needs source ≡ needed library top s = sym (append-nil (needs source))
    ∙ ap (flat_map needs) (sym e) in
    ap (λ all. is_some (option_and_then (λ source. option_map (made (λ _. false) source)
    (all_some (map value (needs source)))) (slice_get all 0))) e
    ∙ (mapped (made (λ _. false) source) (all_some (map value (needs source)))
    ∙ (each_some value (needs source) ∙ ap (list_all (λ x. is_some (value x))) same))
  where
    mapped : (f : List Bool → Bool) (o : Option (List Bool)) → is_some (option_map f o) ≡ is_some o
    mapped f None = refl
    mapped f (Some vs) = refl

no_value : (library : List ModelOf) (top : ℕ) (s : SignalOf) → has_value library top zero s ≡ false
unfolding value_at
no_value library top s = refl

-- each flat signal has one source where it has not two and not none
one_source : (library : List ModelOf) (top : ℕ) (s : SignalOf) → is_driven_twice library top ≡ false
    → is_undriven library top ≡ false → Member s (signals library top)
    → (source : SourceOf) × (sources library top s ≡ source ∷ [])
unfolding is_driven_twice is_undriven
one_source library top s twice none h =
    one (sources library top s) (none_member (λ s. nat_lt 1 (length (sources library top s)))
    (signals library top) s twice h)
    (none_member (λ s. length (sources library top s) == 0) (signals library top) s none h)
  where
    one : (all : List SourceOf) → nat_lt 1 (length all) ≡ false → (length all == 0) ≡ false
        → (source : SourceOf) × (all ≡ source ∷ [])
    one [] few some = absurd (true≢false some)
    one (x ∷ []) few some = (x, refl)
    one (x ∷ y ∷ all) few some =
        absurd (true≢false (sym (lt-ltb 1 (length (x ∷ y ∷ all)) (omega arith)) ∙ few))

told : (s t : SignalOf) → (s ≡ t) ⊎ (s ≡ t → ⊥)
told s t = by (same_signal s t) refl
  where
    by : (b : Bool) → same_signal s t ≡ b → (s ≡ t) ⊎ (s ≡ t → ⊥)
    by true e = inl (signals_same s t e)
    by false e = inr (λ same. true≢false (sym (let P : SignalOf → Type 0 = λ x. same_signal s x
        ≡ true in subst P same (same_self s)) ∙ e))

-- the flat signals make a graph in which a signal ends where it has a value
signals_finite : (library : List ModelOf) (top : ℕ) (o : Option ℕ) → HasNoOtherCode library top o
    → IsFinite (needed library top) (signals library top) (has_value library top)
signals_finite library top o h = record {
  decided = told;
  closed = λ s t inside e. needed_there library top s t h.not_recursive h.formals_known e;
  none = no_value library top;
  more = λ d s inside. let (source, is) = one_source library top s h.driven_once h.driven inside in
      value_next library top d s source is;
}

-- where the condition holds some signal has no value
some_without : (library : List ModelOf) (top : ℕ) → is_cyclic library top ≡ true → (s : SignalOf)
    × Member s (signals library top) × (has_value library top (length (signals library top)) s
    ≡ false)
unfolding is_cyclic
some_without library top e = find (signals library top) e
  where
    without : (o : Option Bool) → is_none o ≡ true → is_some o ≡ false
    without None e = refl
    without (Some v) e = absurd (true≢false (sym e))

    find : (xs : List SignalOf)
        → list_any (λ s. is_none (value_at library top (λ _. false) (length (signals library top))
        s)) xs ≡ true
        → (s : SignalOf) × Member s xs × (has_value library top (length (signals library top)) s
        ≡ false)
    find [] e = absurd (true≢false (sym e))
    find (x ∷ xs) e =
        elim (or_cases (is_none (value_at library top (λ _. false) (length (signals library top))
        x))
        (list_any (λ s. is_none (value_at library top (λ _. false) (length (signals library top))
        s)) xs) e) [
          | inl here ↦ (
            x,
            inl refl,
            without (value_at library top (λ _. false) (length (signals library top)) x) here,
          )
          | inr there ↦ (let (s, inside, is) = find xs there in (s, inr inside, is))
        ]

-- code 28 is that of its condition
is_circular : (library : List ModelOf) (top : ℕ) → HasNoOtherCode library top (Some 28)
    → is_cyclic library top ≡ true
is_circular library top h = by (is_cyclic library top) h.left
  where
    by : (b : Bool) → code_if b 28 None ≡ Some 28 → b ≡ true
    by true e = refl
    by false e = absurd (let none : None ≡ Some 28 = e in cc)

-- a signal that depends on itself is found
found : (library : List ModelOf) (top limit : ℕ) → flat_code library top limit ≡ Some 28
    → (k : ℕ) × (k < length (signals library top))
    × Reaches (needed library top) (signal_at library top k) (signal_at library top k)
found library top limit e =
    let h = no_other_code library top limit (Some 28) (inr refl) e in
    let (s, inside, without) = some_without library top (is_circular library top h) in
    let (t, there, _at, circle) = circle_found (needed library top) (signals library top)
    (has_value library top) (signals_finite library top (Some 28) h) s inside without in
    let (k, less, is) = member_place (signals library top) t no_signal there in
    let P : SignalOf → Type 0 = λ x. Reaches (needed library top) x x in
    (k, less, subst P (sym is) circle)

-- a signal that depends on itself is no signal of an accepted netlist
refused : (library : List ModelOf) (top limit k : ℕ) → flat_code library top limit ≡ None
    → k < length (signals library top) → Reaches (needed library top) (signal_at library top k)
    (signal_at library top k) → ⊥
refused library top limit k e inside circle =
    let h = no_other_code library top limit None (inl refl) e in
    never_ends (needed library top) (signals library top) (has_value library top)
    (signals_finite library top None h)
    (signal_at library top k) (signal_at library top k) (member_get (signals library top) k
    no_signal inside) (inl refl) circle
    (length (signals library top)) (accepted_have_values library top limit e (λ _. false) k inside)

pub cyclic_where_reached : CyclicWhereReached
cyclic_where_reached = λ library top limit kind. (
  (λ e. found library top limit e),
  (λ w. elim kind [
    | inl none ↦ absurd (refused library top limit w.0 none w.1 w.2)
    | inr some ↦ some
  ]),
)

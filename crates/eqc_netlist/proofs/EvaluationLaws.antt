-- Evaluating in an order gives the values.
use Rattle.std.proofs.Common.{◌≡◌, ℕ, suc, ◌+◌, ◌<◌, Bool, false, List, [], ◌∷◌, length, map}
use Rattle.std.proofs.Common.{get_or, set, refl, sym, ◌∙◌, ap, arith, inl, inr, subst}
use Rattle.std.proofs.lemmas.List.{get_or-set_same, get_or-set_other}
use Rattle.std.proofs.lemmas.Bool.{cases_eq, true≢false}
use Rattle.std.proofs.Math.ListN.{length-set}
use Rattle.eqc_netlist.specs.Cover.{cover_value}
use Rattle.eqc_netlist.specs.Graph.{FlatOf, IsFlat, DriverOf, input, tie, cover, driver_at}
use Rattle.eqc_netlist.specs.Graph.{dependencies, driven, value_of, FollowsDrivers}
use Rattle.eqc_netlist.specs.Evaluating.{values_of}
use Rattle.eqc_netlist.specs.Known.{AreKnown}
use Rattle.eqc_netlist.proofs.Members.{among_at, at_among, before_at}

pub dep_before : (f : FlatOf) (k c : ℕ) → IsFlat f → k < length f.steps
    → c < length (dependencies (driver_at f (get_or f.steps k 0)))
    → (i : ℕ) × (i < k) × (get_or f.steps i 0
    ≡ get_or (dependencies (driver_at f (get_or f.steps k 0))) c 0)
dep_before f k c h inside within =
    elim (before_at (λ s. dependencies (driver_at f s)) [] f.steps k
    (get_or (dependencies (driver_at f (get_or f.steps k 0))) c 0) h.ordered
    inside (among_at (dependencies (driver_at f (get_or f.steps k 0))) c within)) [
      | inl none ↦ absurd (true≢false (sym none))
      | inr w ↦ w
    ]

-- the step of a signal
pub step_of : (f : FlatOf) (s : ℕ) → IsFlat f → s < length f.drivers → (i : ℕ)
    × (i < length f.steps) × (get_or f.steps i 0 ≡ s)
step_of f s h inside = at_among f.steps s (h.each_step s inside)

map_same : (v w : ℕ → Bool) (columns : List ℕ) → ((c : ℕ) → c < length columns
    → v (get_or columns c 0) ≡ w (get_or columns c 0)) → map v columns ≡ map w columns
map_same v w [] same = refl
map_same v w (x ∷ columns) same =
    let here : v x ≡ w x = same 0 (omega arith) in
    let others = map_same v w columns (λ c h. same (suc c) (omega arith)) in
    cc

-- a driver makes the same of values that agree on what it depends on
driven_same : (rows : List (List (List ℕ))) (a v w : ℕ → Bool) (driver : DriverOf)
    → ((c : ℕ) → c < length (dependencies driver) → v (get_or (dependencies driver) c 0)
    ≡ w (get_or (dependencies driver) c 0))
    → driven rows a v driver ≡ driven rows a w driver
driven_same rows a v w (input position) same = refl
driven_same rows a v w (tie other) same = same 0 (omega arith)
driven_same rows a v w (cover columns r) same = ap (cover_value (get_or rows r []))
    (map_same v w columns same)

-- one signal more
pub known_more : (f : FlatOf) (a : ℕ → Bool) (values : List Bool) (k : ℕ) (value : Bool) → IsFlat f
    → FollowsDrivers f
    → k < length f.steps → AreKnown f a values k → value ≡ driven f.rows a (values_of values)
    (driver_at f (get_or f.steps k 0))
    → AreKnown f a (set values (get_or f.steps k 0) value) (k + 1)
known_more f a values k value h follows inside known is = record {
  size = length-set values (get_or f.steps k 0) value ∙ known.size;
  known = λ i lt. elim (cases_eq (get_or f.steps i 0) (get_or f.steps k 0)) [
    | inl same ↦
        ap (values_of (set values (get_or f.steps k 0) value)) same
        ∙ (get_or-set_same values (get_or f.steps k 0) value false (omega (
          arith,
          known.size,
          h.steps_within k inside,
        ))
        ∙ (right ∙ ap (value_of f a) (sym same)))
    | inr apart ↦ get_or-set_other values (get_or f.steps k 0) (get_or f.steps i 0) value false
        apart ∙ known.known i (before i lt apart)
  ];
}
  where
    before : (i : ℕ) → i < k + 1 → (get_or f.steps i 0 ≡ get_or f.steps k 0 → ⊥) → i < k
    before i lt apart = elim (cases_eq i k) [
      | inl same ↦
          absurd (apart (ap (λ j. get_or f.steps j 0) same))
      | inr other ↦ omega arith
    ]

    right : value ≡ value_of f a (get_or f.steps k 0)
    right = is ∙ (driven_same f.rows a (values_of values) (value_of f a)
        (driver_at f (get_or f.steps k 0))
        (λ c within. let w = dep_before f k c h inside within in
        subst (λ t. values_of values t ≡ value_of f a t) w.2 (known.known w.0 w.1))
        ∙ sym (follows a (get_or f.steps k 0) (h.steps_within k inside)))

pub known_all : (f : FlatOf) (a : ℕ → Bool) (values : List Bool) (s : ℕ) → IsFlat f
    → AreKnown f a values (length f.steps) → s < length f.drivers → values_of values s
    ≡ value_of f a s
known_all f a values s h known inside =
    let w = step_of f s h inside in
    subst (λ t. values_of values t ≡ value_of f a t) w.2 (known.known w.0 w.1)

-- the values of the outputs' signals
pub known_outputs : (f : FlatOf) (a : ℕ → Bool) (values : List Bool) → IsFlat f
    → ((s : ℕ) → s < length f.drivers → values_of values s ≡ value_of f a s)
    → map (values_of values) f.output_signals ≡ map (value_of f a) f.output_signals
known_outputs f a values h known = map_same (values_of values) (value_of f a) f.output_signals
    (λ o inside. known (get_or f.output_signals o 0)
    (h.outputs_within o (omega (arith, h.each_output))))

-- the outputs' signals are among the signals
pub outputs_small : (f : FlatOf) (signals : List ℕ) (n : ℕ) → IsFlat f → signals ≡ f.output_signals
    → n ≡ length f.drivers → (k : ℕ) → k < length signals → get_or signals k 0 < n
outputs_small f signals n h is size =
    λ k inside. rw (is, size) (h.outputs_within k (omega (arith, h.each_output, ap length is)))

-- The numbers of flat signals: those of an instance come after those of the instances before it, in
-- the order
-- of the names of its model.
use Rattle.std.proofs.Common.{◌≡◌, ℕ, ◌+◌, ◌<◌, inl, inr, Bool, true, false, not, List, [], ◌∷◌}
use Rattle.std.proofs.Common.{◌++◌, length, refl, sym, ◌∙◌, ap, subst, arith}
use Rattle.std.specs.Prelude.{slice_index_or, filter}
use Rattle.std.specs.List.{flat_map}
use Rattle.std.specs.Str.{bytes_eq}
use Rattle.std.proofs.lemmas.Bool.{true≢false, and_parts, and_from}
use Rattle.std.proofs.lemmas.List.{length-map, get_or-map}
use Rattle.std.proofs.lemmas.List.Concat.{get_or-flat_map}
use Rattle.std.proofs.lemmas.List.Folds.{length-flat_map-take}
use Rattle.eqc_blif.specs.Netlist.{ModelOf}
use Rattle.eqc_hierarchy.specs.Hierarchy.{model, model_at, paths}
use Rattle.eqc_hierarchy.specs.Signals.{SignalOf, same_signal, cover_names, actuals, once_each}
use Rattle.eqc_hierarchy.specs.Signals.{names_of, signals_at, signals}
use Rattle.eqc_flat.specs.Flattened.{no_signal, signal_at, path_at, first_signal}
use Rattle.eqc_hierarchy.proofs.Distinct.{Member, Distinct, member_of_map, distinct_flat_map}
use Rattle.eqc_hierarchy.proofs.Distinct.{distinct_map, distinct_places}
use Rattle.eqc_hierarchy.proofs.PathLaws.{paths_distinct}
use Rattle.eqc_netlist.proofs.NameSetLaws.{bytes_same, bytes_self}

-- signals are the same where the test says so
pub signals_same : (s t : SignalOf) → same_signal s t ≡ true → s ≡ t
signals_same s t e =
    let both = and_parts (bytes_eq s.path t.path) (bytes_eq s.name t.name) e in
    let path : s.path ≡ t.path = bytes_same s.path t.path both.0 in
    let name : s.name ≡ t.name = bytes_same s.name t.name both.1 in
    let P : SignalOf → Type 0 = λ x. s ≡ x in
    ap (λ p. record { path = p; name = s.name }) path ∙ ap (λ n. record { path = t.path; name = n })
    name

pub same_self : (s : SignalOf) → same_signal s s ≡ true
same_self s = and_from (bytes_eq s.path s.path) (bytes_eq s.name s.name) (bytes_self s.path)
    (bytes_self s.name)

-- what a filter keeps stood there before and passes
kept_member : (p : List ℕ → Bool) (y : List ℕ) (xs : List (List ℕ)) → Member y (filter p xs)
    → Member y xs × (p y ≡ true)
kept_member p y [] h = absurd h
kept_member p y (x ∷ xs) h = by_test (p x) refl (kept_member p y xs)
  where
    by_test : (b : Bool) → p x ≡ b → (Member y (filter p xs) → Member y xs × (p y ≡ true))
        → Member y (x ∷ xs) × (p y ≡ true)
    by_test true e up = let k : Member y (x ∷ filter p xs) = rw e at h in elim k [
      | inl same ↦ (inl same, let P : List ℕ → Type 0 = λ z. p z ≡ true in subst P same e)
      | inr there ↦ (inr (up there).0, (up there).1)
    ]
    by_test false e up = let k : Member y (filter p xs) = rw e at h in (inr (up k).0, (up k).1)

distinct_filter : (p : List ℕ → Bool) (xs : List (List ℕ)) → Distinct xs → Distinct (filter p xs)
distinct_filter p [] d = tt
distinct_filter p (x ∷ xs) d = by_test (p x) refl (distinct_filter p xs d.1)
  where
    by_test : (b : Bool) → p x ≡ b → Distinct (filter p xs) → Distinct (filter p (x ∷ xs))
    by_test true e rest = rw e (λ h. d.0 (kept_member p x xs h).0, rest)
    by_test false e rest = rw e rest

-- no name stands twice among the names of a model
pub distinct_once : (names : List (List ℕ)) → Distinct (once_each names)
distinct_once [] = tt
distinct_once (name ∷ names) = (
  λ h.
      let (there, other) = kept_member (λ z. not (bytes_eq name z)) name (once_each names) h in
      true≢false (sym other ∙ ap not (bytes_self name)),
  distinct_filter (λ z. not (bytes_eq name z)) (once_each names) (distinct_once names),
)

pub names_distinct : (m : ModelOf) → Distinct (names_of m)
unfolding names_of
names_distinct m = distinct_once (m.inputs ++ m.outputs ++ flat_map cover_names m.covers
    ++ flat_map actuals m.instances)

at_path : (library : List ModelOf) (top : ℕ) (path : List ℕ) (y : SignalOf)
    → Member y (signals_at library top path) → y.path ≡ path
at_path library top path y h =
    let (name, there, same) =
    member_of_map (λ name. record { path = path; name = name }) y
    (names_of (model library (model_at library top path))) h in
    ap (λ (s : SignalOf). s.path) (sym same)

-- no flat signal stands twice
pub signals_distinct : (library : List ModelOf) (top : ℕ) → Distinct (signals library top)
unfolding signals
signals_distinct library top =
    distinct_flat_map (λ s. s.path) (signals_at library top) (paths library top)
    (at_path library top)
    (λ path.
    distinct_map (λ name. record { path = path; name = name })
    (names_of (model library (model_at library top path)))
    (λ x z e. ap (λ (s : SignalOf). s.name) e)
    (names_distinct (model library (model_at library top path))))
    (paths_distinct library top)

-- the signal of the name at a place in an instance's model
pub signal_here : (library : List ModelOf) (top i j : ℕ) → i < length (paths library top)
    → j < length (names_of (model library (model_at library top (path_at library top i))))
    → signal_at library top (first_signal library top i + j)
    ≡ record {
      path = path_at library top i;
      name = slice_index_or (names_of
          (model library (model_at library top (path_at library top i)))) j [];
    }
unfolding signals
signal_here library top i j inside here =
    let names = names_of (model library (model_at library top (path_at library top i))) in
    get_or-flat_map (signals_at library top) (paths library top) i j [] no_signal inside
    (rw length-map here)
    ∙ get_or-map (λ name. record { path = path_at library top i; name = name }) names j [] no_signal
    here

-- its number is one of a signal
pub signal_inside : (library : List ModelOf) (top i j : ℕ) → i < length (paths library top)
    → j < length (names_of (model library (model_at library top (path_at library top i))))
    → first_signal library top i + j < length (signals library top)
unfolding signals
signal_inside library top i j inside here =
    let most = length-flat_map-take (signals_at library top) (paths library top) i [] inside in
    let row :
    length (signals_at library top (path_at library top i))
    ≡ length (names_of (model library (model_at library top (path_at library top i)))) =
    length-map (names_of (model library (model_at library top (path_at library top i))))
    (λ name. record { path = path_at library top i; name = name }) in
    omega (arith, most, row, here)

-- signals that are the same have the same number
pub signal_numbers : (library : List ModelOf) (top s t : ℕ) → s < length (signals library top)
    → t < length (signals library top)
    → same_signal (signal_at library top s) (signal_at library top t) ≡ true → s ≡ t
signal_numbers library top s t a b e = distinct_places (signals library top) no_signal s t
    (signals_distinct library top) a b (signals_same (signal_at library top s)
    (signal_at library top t) e)

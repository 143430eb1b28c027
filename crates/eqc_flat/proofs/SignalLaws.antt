-- The list of signals has the names that occur in the models of the instances, each once.
use Rattle.std.proofs.Common.{◌≡◌, ℕ, zero, suc, ◌+◌, ◌<◌, ◌≤◌, inl, inr, true, List, [], ◌∷◌}
use Rattle.std.proofs.Common.{length, refl, sym, ◌∙◌, subst, arith}
use Rattle.std.specs.List.{range_with_len}
use Rattle.std.proofs.lemmas.Bool.{cases_eq}
use Rattle.eqc_blif.specs.Netlist.{ModelOf}
use Rattle.eqc_netlist.specs.Names.{is_named}
use Rattle.eqc_hierarchy.specs.Hierarchy.{model, callees, model_at, below, paths_within, paths}
use Rattle.eqc_hierarchy.specs.Signals.{SignalOf, names_of, signals_at, signals}
use Rattle.eqc_flat.specs.Flattened.{no_signal}
use Rattle.eqc_flat.specs.Instances.{IsGrowing}
use Rattle.eqc_flat.specs.HierarchyLaws.{IsInstance, main, inner, occurring, SignalsStandOnce}
use Rattle.eqc_flat.specs.HierarchyLaws.{SignalsAreNamesOfInstances}
use Rattle.eqc_hierarchy.proofs.Distinct.{Member, member_get, member_map, member_of_map}
use Rattle.eqc_hierarchy.proofs.Distinct.{member_piece, all_pieces, distinct_places, member_place}
use Rattle.eqc_flat.proofs.NumberLaws.{signals_distinct}
use Rattle.eqc_hierarchy.proofs.NameSetLaws.{once_named}
use Rattle.eqc_hierarchy.proofs.NamingLaws.{named_member, member_named}
use Rattle.eqc_flat.proofs.ExpandedLaws.{growing}
use Rattle.eqc_hierarchy.proofs.PathLaws.{range_below}

pub signals_stand_once : SignalsStandOnce
signals_stand_once = λ library top i j a b e. distinct_places (signals library top) no_signal i j
    (signals_distinct library top) a b e

-- a number of a range stands in it
pub range_has : (a n y : ℕ) → a ≤ y → y < a + n → Member y (range_with_len a n)
range_has a zero y h k = absurd (omega (arith, h, k))
range_has a (suc n) y h k = elim (cases_eq a y) [
  | inl same ↦ inl same
  | inr other ↦
      inr (range_has (a + 1) n y (omega arith) (omega (arith, k)))
]

-- an instance is among the paths
instance_there : (library : List ModelOf) (top : ℕ) (path : List ℕ) → IsGrowing library top
    → IsInstance library top path → Member path (paths library top)
instance_there library top _ g main = let P : List (List ℕ) → Type 0 = λ l. Member [] l in
    subst P (sym g) (inl refl)
instance_there library top _ g (inner position path i h) =
    let P : List (List ℕ) → Type 0 = λ l. Member (position ∷ path) l in
    let n = length (callees library (model_at library top path)) in
    let here : Member (position ∷ path) (below library top path) =
    member_map (λ (p : ℕ). p ∷ path) position (range_with_len 0 n) (range_has 0 n position
    (omega arith) (omega (arith, h))) in
    subst P (sym g) (inr (member_piece (below library top) (paths library top) path (position
    ∷ path) (instance_there library top path g i) here))

-- a path is an instance
pub there_instance : (library : List ModelOf) (top n : ℕ) (path : List ℕ)
    → Member path (paths_within library top n) → IsInstance library top path
unfolding paths_within
there_instance library top zero path (inl e) = let P : List ℕ → Type 0 =
    λ p. IsInstance library top p in subst P e main
there_instance library top zero path (inr none) = absurd none
there_instance library top (suc n) path (inl e) = let P : List ℕ → Type 0 =
    λ p. IsInstance library top p in subst P e main
there_instance library top (suc n) path (inr h) =
    all_pieces (λ p. IsInstance library top p) (below library top) (paths_within library top n)
    (λ q y of here.
    let m = length (callees library (model_at library top q)) in
    let (position, inside, same) = member_of_map (λ (p : ℕ). p ∷ q) y (range_with_len 0 m) here in
    let less : position < 0 + m = range_below 0 m position inside in
    let P : List ℕ → Type 0 = λ p. IsInstance library top p in
    subst P same (inner position q (there_instance library top n q of) (omega (arith, less)))) path
    h

names_occurring : (m : ModelOf) (name : List ℕ) → is_named (names_of m) name
    ≡ is_named (occurring m) name
unfolding names_of
names_occurring m name = once_named (occurring m) name

-- what holds of each flat signal
signal_origin : (library : List ModelOf) (top : ℕ) (s : SignalOf) → Member s (signals library top)
    → IsInstance library top s.path
    × (is_named (occurring (model library (model_at library top s.path))) s.name ≡ true)
unfolding signals
signal_origin library top s h =
    all_pieces (λ (t : SignalOf).
    IsInstance library top t.path
    × (is_named (occurring (model library (model_at library top t.path))) t.name ≡ true))
    (signals_at library top) (paths library top) (λ path t of here.
    let m = model library (model_at library top path) in
    let (name, there, same) = member_of_map {Y = SignalOf} (λ (name : List ℕ). record {
      path = path;
      name = name;
    }) t (names_of m) here in
    let P : SignalOf → Type 0 = λ t. IsInstance library top t.path
    × (is_named (occurring (model library (model_at library top t.path))) t.name ≡ true) in
    subst P same (
      there_instance library top (length library) path of,
      sym (names_occurring m name)
          ∙ member_named name (names_of m) there,
    )) s h

-- a name that occurs in an instance's model is a flat signal
pub signal_member : (library : List ModelOf) (top : ℕ) (s : SignalOf) → IsGrowing library top
    → IsInstance library top s.path
    → is_named (occurring (model library (model_at library top s.path))) s.name ≡ true
    → Member s (signals library top)
unfolding signals
signal_member library top s g i named =
    let m = model library (model_at library top s.path) in
    member_piece (signals_at library top) (paths library top) s.path s (instance_there library top
    s.path g i)
    (member_map {Y = SignalOf} (λ (name : List ℕ). record { path = s.path; name = name }) s.name
    (names_of m) (named_member s.name (names_of m) (names_occurring m s.name ∙ named)))

pub signals_are_names_of_instances : SignalsAreNamesOfInstances
signals_are_names_of_instances = λ library top e s. (
  (λ w. let P : SignalOf → Type 0 = λ t. Member t (signals library top) in
      signal_origin library top s (subst P w.2 (member_get (signals library top) w.0 no_signal
      w.1))),
  (λ w. member_place (signals library top) s no_signal (signal_member library top s
      (growing library top e) w.0 w.1)),
)

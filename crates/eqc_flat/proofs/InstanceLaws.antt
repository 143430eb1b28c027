-- Instances are found one by one.
use Rattle.std.proofs.Common.{zero-add, ◌≡◌, ℕ, suc, ◌+◌, ◌-◌, ◌<◌, ◌≤◌, inl, inr, true, false}
use Rattle.std.proofs.Common.{List, [], ◌∷◌, ◌++◌, length, map, take, get_or, refl, sym, ◌∙◌, ap}
use Rattle.std.proofs.Common.{subst, arith}
use Rattle.std.specs.Prelude.{slice_index_or}
use Rattle.std.specs.List.{flat_map, range_with_len}
use Rattle.std.proofs.lemmas.Bool.{cases_lt, lt-ltb, le-ltb}
use Rattle.std.proofs.lemmas.List.{
  append-nil,
  map-append,
  take_more,
  take_all,
  length-append,
  length-take-le,
  length-map,
  get_or-map,
  get_or_push,
  get_or_append_left,
  length_push,
  get_or-take,
  get_or_past,
  get_or_default,
}
use Rattle.std.proofs.lemmas.List.Folds.{length-flat_map-take}
use Rattle.std.proofs.lemmas.List.FromFn.{get_or-map-range_with_len, length-map-range_with_len}
use Rattle.std.proofs.lemmas.List.FromFn.{map-range_with_len_more}
use Rattle.std.proofs.lemmas.Grind.{flat_map-append}
use Rattle.eqc_blif.specs.Netlist.{ModelOf}
use Rattle.eqc_hierarchy.specs.Hierarchy.{model, callees, model_at, below, paths}
use Rattle.eqc_hierarchy.specs.Signals.{names_of, signals_at}
use Rattle.eqc_hierarchy.specs.Signals as sig
use Rattle.eqc_hierarchy.specs.Codes.{is_too_large}
use Rattle.eqc_flat.specs.Flattened.{path_at, first_signal}
use Rattle.eqc_flat.specs.Instances.{first_below, IsGrowing, IsFound}
use Rattle.eqc_hierarchy.proofs.CallLaws.{number_within}
use Rattle.eqc_hierarchy.proofs.NamingLaws.{no_instance, callee_at, callee_count}
use Rattle.eqc_hierarchy.proofs.PathLaws as tree

-- the signals of one instance more
pub first_more : (library : List ModelOf) (top q : ℕ) → q < length (paths library top)
    → first_signal library top (q + 1)
    ≡ first_signal library top q
    + length (names_of (model library (model_at library top (path_at library top q))))
first_more library top q inside =
    let all = paths library top in
    let names = names_of (model library (model_at library top (path_at library top q))) in
    let more : flat_map (signals_at library top) (take (q + 1) all)
    ≡ flat_map (signals_at library top) (take q all) ++ signals_at library top
    (path_at library top q) =
    ap (flat_map (signals_at library top)) (take_more all q [] inside)
    ∙ (flat_map-append (signals_at library top) (take q all) (path_at library top q ∷ [])
    ∙ ap (λ xs. flat_map (signals_at library top) (take q all) ++ xs)
    (append-nil (signals_at library top (path_at library top q)))) in
    ap length more
    ∙ (length-append (flat_map (signals_at library top) (take q all)) (signals_at library top
    (path_at library top q))
    ∙ ap (λ n. first_signal library top q + n) (length-map names (λ name. record {
      path =
          path_at library top q;
      name = name;
    })))

-- the signals of some instances are at most all
first_most : (library : List ModelOf) (top q : ℕ) → q < length (paths library top)
    → first_signal library top q
    + length (names_of (model library (model_at library top (path_at library top q))))
    ≤ length (sig.signals library top)
unfolding sig.signals
first_most library top q inside =
    let names = names_of (model library (model_at library top (path_at library top q))) in
    let most = length-flat_map-take (signals_at library top) (paths library top) q [] inside in
    let row : length (signals_at library top (path_at library top q)) ≡ length names =
    length-map names (λ name. record { path = path_at library top q; name = name }) in
    omega (arith, most, row)

pub first_all : (library : List ModelOf) (top q : ℕ) → q ≡ length (paths library top)
    → first_signal library top q ≡ length (sig.signals library top)
unfolding sig.signals
first_all library top q e = ap (λ xs. length (flat_map (signals_at library top) xs))
    (take_all q (paths library top) (omega (arith, e)))

-- some instance is there: the main model
pub some_path : (library : List ModelOf) (top : ℕ) → IsGrowing library top
    → 0 < length (paths library top)
some_path library top fixed = omega (arith, ap length fixed)

pub root_path : (library : List ModelOf) (top : ℕ) → IsGrowing library top → path_at library top 0
    ≡ []
root_path library top fixed = ap (λ xs. get_or xs 0 []) fixed

pub root_model : (library : List ModelOf) (top : ℕ) → IsGrowing library top
    → model_at library top (path_at library top 0) ≡ top
unfolding model_at
root_model library top fixed = ap (model_at library top) (root_path library top fixed)

-- the instance at a position of another, by its number
pub next_path : (library : List ModelOf) (top q k j : ℕ) → IsGrowing library top
    → q ≡ first_below library top k + j
    → k < length (paths library top)
    → j < length (callees library (model_at library top (path_at library top k)))
    → path_at library top q ≡ j ∷ path_at library top k
next_path library top q k j fixed at inside here =
    let same : q ≡ tree.first_below library top k + j = omega (arith, at) in
    ap (path_at library top) same ∙ tree.next_path library top k j fixed inside here

pub next_inside : (library : List ModelOf) (top q k j : ℕ) → IsGrowing library top
    → q ≡ first_below library top k + j
    → k < length (paths library top)
    → j < length (callees library (model_at library top (path_at library top k)))
    → q < length (paths library top)
next_inside library top q k j fixed at inside here =
    let there : tree.first_below library top k + j < length (paths library top) =
    tree.next_inside library top k j fixed inside here in
    omega (arith, at, there)

-- the model of the instance at a position of another
pub next_model : (library : List ModelOf) (top q k j : ℕ) → IsGrowing library top
    → q ≡ first_below library top k + j
    → k < length (paths library top)
    → j < length (callees library (model_at library top (path_at library top k)))
    → model_at library top (path_at library top q)
    ≡ slice_index_or (callees library (model_at library top (path_at library top k))) j
    (length library)
unfolding model_at
next_model library top q k j fixed at inside here =
    ap (model_at library top) (next_path library top q k j fixed at inside here)

pub first_next : (library : List ModelOf) (top k : ℕ) → k < length (paths library top)
    → first_below library top (k + 1) ≡ first_below library top k
    + length (callees library (model_at library top (path_at library top k)))
first_next library top k inside =
    let more : tree.first_below library top (k + 1) ≡ tree.first_below library top k
    + length (callees library (model_at library top (path_at library top k))) =
    tree.first_next library top k inside in
    omega (arith, more)

main_model : (library : List ModelOf) (top : ℕ) → model_at library top [] ≡ top
unfolding model_at
main_model library top = refl

-- the main model alone
pub found_root : (library : List ModelOf) (top size : ℕ) → IsGrowing library top
    → size ≡ length (names_of (model library top)) → size ≤ 1048576
    → IsFound library top 1 (top ∷ []) (0 ∷ []) [] size
found_root library top size fixed is few = record {
  within = omega (arith, some_path library top fixed);
  models_of = sym (ap (map (model_at library top)) one ∙ ap (λ m. m ∷ []) (main_model library top));
  firsts_of = refl;
  places_of = sym one;
  parents = λ i h. absurd (omega arith);
  signals_of =
      let more :
      first_signal library top (0 + 1)
      ≡ first_signal library top 0
      + length (names_of (model library (model_at library top (path_at library top 0)))) =
      first_more library top 0 (some_path library top fixed) in
      let same : length (names_of (model library top))
      ≡ length (names_of (model library (model_at library top (path_at library top 0)))) =
      ap (λ m. length (names_of (model library m))) (sym (root_model library top fixed)) in
      is ∙ (same ∙ (sym (zero-add
      (length (names_of (model library (model_at library top (path_at library top 0))))))
      ∙ sym more));
  few = omega (arith, few);
}
  where
    one : take 1 (paths library top) ≡ [] ∷ []
    one = ap (take 1) fixed

-- whether there are too many signals and instances with one instance more
pub found_too_many : (library : List ModelOf) (top q k j size signals : ℕ) (models firsts : List ℕ)
    (places : List (ℕ × ℕ))
    → IsFound library top q models firsts places signals → IsGrowing library top
    → q ≡ first_below library top k + j
    → k < length (paths library top)
    → j < length (callees library (model_at library top (path_at library top k)))
    → size
    ≡ length (names_of
    (model library (slice_index_or (callees library (model_at library top (path_at library top k)))
    j (length library))))
    → 1048576 < signals + length places + 1 + size → is_too_large library top ≡ true
unfolding is_too_large
found_too_many library top q k j size signals_ models firsts places h fixed at inside here is many =
    let there = next_inside library top q k j fixed at inside here in
    let most = first_most library top q there in
    let same : size ≡ length
    (names_of (model library (model_at library top (path_at library top q)))) =
    is ∙ ap (λ m. length (names_of (model library m)))
    (sym (next_model library top q k j fixed at inside here)) in
    let count : suc (length places) ≡ q =
    sym (ap suc (length-map places (λ place. place.1 ∷ path_at library top place.0)))
    ∙ (ap length h.places_of ∙ length-take-le q (paths library top) h.within) in
    lt-ltb 1048576 (length (sig.signals library top) + (length (paths library top) - 1))
    (omega (arith, most, same, count, h.signals_of, many, there))

-- one instance more
pub found_more : (library : List ModelOf) (top q k j size signals : ℕ) (models firsts : List ℕ)
    (places : List (ℕ × ℕ))
    → IsFound library top q models firsts places signals → IsGrowing library top
    → q ≡ first_below library top k + j
    → k < length (paths library top)
    → j < length (callees library (model_at library top (path_at library top k))) → (callee : ℕ)
    → callee ≡ slice_index_or (callees library (model_at library top (path_at library top k))) j
    (length library)
    → size ≡ length (names_of (model library callee)) → k ≤ length places → signals + length places
    + 1 + size ≤ 1048576
    → IsFound library top (q + 1) (models ++ callee ∷ []) (firsts ++ signals ∷ []) (places ++ (k, j)
    ∷ []) (signals + size)
found_more library top q k j size signals_ models firsts places h fixed at inside here callee calls
    is parent few = record {
      within = omega (arith, there);
      models_of =
          ap (λ xs. xs ++ callee ∷ []) h.models_of
          ∙ (ap (λ m. map (model_at library top) (take q (paths library top)) ++ m ∷ []) named
          ∙ (sym (map-append (model_at library top) (take q (paths library top)) (path_at library top q
          ∷ []))
          ∙ ap (map (model_at library top)) (sym longer)));
      firsts_of =
          ap (λ xs. xs ++ signals_ ∷ []) h.firsts_of
          ∙ (ap (λ n. map (first_signal library top) (range_with_len 0 q) ++ n ∷ []) h.signals_of
          ∙ sym (map-range_with_len_more (first_signal library top) 0 q q (omega arith)));
      places_of =
          ap (λ xs. [] ∷ xs) (map-append (λ (place : ℕ × ℕ). place.1 ∷ path_at library top place.0)
          places ((k, j) ∷ []))
          ∙ (ap (λ xs. xs ++ (j ∷ path_at library top k) ∷ []) h.places_of
          ∙ (ap (λ p. take q (paths library top) ++ p ∷ [])
          (sym (next_path library top q k j fixed at inside here)) ∙ sym longer));
      parents = λ i e. elim (cases_lt i (length places)) [
        | inl old ↦ (let same : get_or (places ++ (k, j) ∷ []) i (0, 0) ≡ get_or places i (0, 0) =
            get_or_append_left places ((k, j) ∷ []) (0, 0) i old in rw same (h.parents i old))
        | inr new ↦
            (let last : i ≡ length places = omega (arith, e, new, length_push places (k, j)) in
            let same : get_or (places ++ (k, j) ∷ []) (length places) (0, 0) ≡ (k, j) =
            get_or_push places (k, j) (0, 0) (length places) refl in
            rw (last, same) parent)
      ];
      signals_of = ap (λ n. n + size) h.signals_of ∙ (ap (λ n. first_signal library top q + n) sized
          ∙ sym (first_more library top q there));
      few = let count : length (places ++ (k, j) ∷ []) ≡ length places + 1 = length_push places (k, j)
          in omega (arith, few, count);
    }
  where
    there : q < length (paths library top)
    there = next_inside library top q k j fixed at inside here

    named : callee ≡ model_at library top (path_at library top q)
    named = calls ∙ sym (next_model library top q k j fixed at inside here)

    sized : size ≡ length (names_of (model library (model_at library top (path_at library top q))))
    sized = is ∙ ap (λ m. length (names_of (model library m))) named

    longer : take (q + 1) (paths library top) ≡ take q (paths library top) ++ path_at library top q
        ∷ []
    longer = take_more (paths library top) q [] there

-- all are found where none is left to be looked at
pub found_all : (library : List ModelOf) (top q signals : ℕ) (models firsts : List ℕ)
    (places : List (ℕ × ℕ))
    → IsFound library top q models firsts places signals → IsGrowing library top
    → q ≡ first_below library top q
    → q ≡ length (paths library top)
found_all library top q signals_ models firsts places h fixed e =
    tree.paths_whole library top q fixed h.within (omega (arith, e))

pub found_few : (library : List ModelOf) (top q signals : ℕ) (models firsts : List ℕ)
    (places : List (ℕ × ℕ))
    → IsFound library top q models firsts places signals → q ≡ length (paths library top)
    → is_too_large library top ≡ false
unfolding is_too_large
found_few library top q signals_ models firsts places h e =
    let count : suc (length places) ≡ q =
    sym (ap suc (length-map places (λ place. place.1 ∷ path_at library top place.0)))
    ∙ (ap length h.places_of ∙ length-take-le q (paths library top) h.within) in
    let all : first_signal library top q ≡ length (sig.signals library top) =
    first_all library top q e in
    le-ltb 1048576 (length (sig.signals library top) + (length (paths library top) - 1))
    (omega (arith, h.signals_of, all, count, h.few, e))

-- the main model alone may have too many signals
pub root_too_many : (library : List ModelOf) (top size : ℕ) → IsGrowing library top
    → size ≡ length (names_of (model library top)) → 1048576 < size → is_too_large library top
    ≡ true
unfolding is_too_large
root_too_many library top size fixed is many =
    let inside = some_path library top fixed in
    let most = first_most library top 0 inside in
    let same : size ≡ length
    (names_of (model library (model_at library top (path_at library top 0)))) = is
    ∙ ap (λ m. length (names_of (model library m))) (sym (root_model library top fixed)) in
    lt-ltb 1048576 (length (sig.signals library top) + (length (paths library top) - 1))
    (omega (arith, most, same, many))

-- the number of instances that were found
pub found_count : (library : List ModelOf) (top q signals : ℕ) (models firsts : List ℕ)
    (places : List (ℕ × ℕ)) → IsFound library top q models firsts places signals → length places + 1
    ≡ q
found_count library top q signals_ models firsts places h =
    let count : suc (length places) ≡ q =
    sym (ap suc (length-map places (λ place. place.1 ∷ path_at library top place.0)))
    ∙ (ap length h.places_of ∙ length-take-le q (paths library top) h.within) in
    omega (arith, count)

pub found_models : (library : List ModelOf) (top q signals : ℕ) (models firsts : List ℕ)
    (places : List (ℕ × ℕ)) → IsFound library top q models firsts places signals → length models ≡ q
found_models library top q signals_ models firsts places h = ap length h.models_of
    ∙ (length-map (take q (paths library top)) (model_at library top)
    ∙ length-take-le q (paths library top) h.within)

-- the model of an instance that was found
pub found_model : (library : List ModelOf) (top q k m signals : ℕ) (models firsts : List ℕ)
    (places : List (ℕ × ℕ))
    → IsFound library top q models firsts places signals → k < length models
    → m ≡ slice_index_or models k m
    → m ≡ model_at library top (path_at library top k)
found_model library top q k m signals_ models firsts places h inside read =
    let count = found_models library top q signals_ models firsts places h in
    let room : k < length (take q (paths library top)) =
    omega (arith, length-take-le q (paths library top) h.within, count, inside) in
    read
    ∙ (ap (λ xs. get_or xs k m) h.models_of
    ∙ (get_or-map (model_at library top) (take q (paths library top)) k [] m room
    ∙ ap (model_at library top) (get_or-take q (paths library top) k []
    (omega (arith, count, inside)))))

-- the first signal of an instance that was found
pub found_first : (library : List ModelOf) (top q k n signals : ℕ) (models firsts : List ℕ)
    (places : List (ℕ × ℕ))
    → IsFound library top q models firsts places signals → k < q → n ≡ slice_index_or firsts k n
    → n ≡ first_signal library top k
found_first library top q k n signals_ models firsts places h inside read =
    read ∙ (ap (λ xs. get_or xs k n) h.firsts_of
    ∙ get_or-map-range_with_len (first_signal library top) 0 q k k n inside (omega arith))

pub found_firsts : (library : List ModelOf) (top q signals : ℕ) (models firsts : List ℕ)
    (places : List (ℕ × ℕ)) → IsFound library top q models firsts places signals → length firsts ≡ q
found_firsts library top q signals_ models firsts places h = ap length h.firsts_of
    ∙ length-map-range_with_len (first_signal library top) 0 q

pub found_signals : (library : List ModelOf) (top q signals : ℕ) (models firsts : List ℕ)
    (places : List (ℕ × ℕ))
    → IsFound library top q models firsts places signals → q ≡ length (paths library top)
    → signals ≡ length (sig.signals library top)
found_signals library top q signals_ models firsts places h e = h.signals_of
    ∙ first_all library top q e

-- each model of an instance is one of the library, or none
pub model_within : (library : List ModelOf) (top : ℕ) (path : List ℕ) → top ≤ length library
    → model_at library top path ≤ length library
unfolding model_at
model_within library top [] h = h
model_within library top (p ∷ path) h =
    elim (cases_lt p (length (callees library (model_at library top path)))) [
      | inl inside ↦
          (let m = model_at library top path in
          let here : p < length (model library m).instances = omega (
            arith,
            callee_count library m,
            inside,
          ) in
          let same = callee_at library m p here in
          let bound = number_within library (get_or (model library m).instances p no_instance).model in
          omega (arith, same, bound))
      | inr past ↦
          (let same : slice_index_or (callees library (model_at library top path)) p (length library)
          ≡ length library =
          get_or_past (callees library (model_at library top path)) p (length library) past in
          omega (arith, same))
    ]

-- what the instances below instance k are made from: its model, and that model's calls
pub record IsOpening (library : List ModelOf) (top k m : ℕ) (row : List ℕ) : Type 0 where
  pub inside : k < length (paths library top)
  pub before : k < first_below library top k
  pub named : m ≡ model_at library top (path_at library top k)
  pub calls : row ≡ callees library (model_at library top (path_at library top k))

pub opening : (library : List ModelOf) (top k m : ℕ) (row : List ℕ) (signals : ℕ)
    (models firsts : List ℕ) (places : List (ℕ × ℕ))
    → IsFound library top (first_below library top k) models firsts places signals
    → k < length models
    → m ≡ slice_index_or models k m → row ≡ callees library m → IsOpening library top k m row
opening library top k m row signals_ models firsts places h here read calls =
    let size = found_models library top (first_below library top k) signals_ models firsts places h
    in
    let named = found_model library top (first_below library top k) k m signals_ models firsts
    places h here read in
    record {
      inside = omega (arith, size, here, h.within);
      before = omega (arith, size, here);
      named = named;
      calls = calls ∙ ap (callees library) named;
    }

called : (library : List ModelOf) (row all : List ℕ) (j callee : ℕ) → row ≡ all → j < length row
    → callee ≡ slice_index_or row j callee → callee ≡ slice_index_or all j (length library)
called library row all j callee is here read = read
    ∙ (get_or_default row j callee (length library) here ∙ ap (λ xs. get_or xs j (length library))
    is)

pub open_many : (library : List ModelOf) (top k m j callee names : ℕ) (row : List ℕ) (signals : ℕ)
    (models firsts : List ℕ)
    (places : List (ℕ × ℕ)) → IsOpening library top k m row → IsGrowing library top
    → IsFound library top (first_below library top k + j) models firsts places signals
    → j < length row
    → callee ≡ slice_index_or row j callee → names ≡ length (names_of (model library callee))
    → 1048576 < signals + length places + 1 + names → is_too_large library top ≡ true
open_many library top k m j callee names row signals_ models firsts places o fixed h here read sized
    many =
    let all = callees library (model_at library top (path_at library top k)) in
    found_too_many library top (first_below library top k + j) k j names signals_ models firsts
    places h fixed refl o.inside (omega (arith, here, ap length o.calls))
    (sized ∙ ap (λ c. length (names_of (model library c))) (called library row all j callee o.calls
    here read)) many

pub open_more : (library : List ModelOf) (top k m j callee names : ℕ) (row : List ℕ)
    (signals now_signals : ℕ)
    (models firsts now_models now_firsts : List ℕ) (places now_places : List (ℕ × ℕ))
    → IsOpening library top k m row
    → IsGrowing library top → IsFound library top (first_below library top k + j) models firsts
    places signals → j < length row
    → callee ≡ slice_index_or row j callee → names ≡ length (names_of (model library callee))
    → signals + length places + 1 + names ≤ 1048576 → now_models ≡ models ++ callee ∷ []
    → now_firsts ≡ firsts ++ signals ∷ []
    → now_places ≡ places ++ (k, j) ∷ [] → now_signals ≡ signals + names
    → IsFound library top (first_below library top k + (j + 1)) now_models now_firsts now_places
    now_signals
open_more library top k m j callee names row signals_ now_signals models firsts now_models
    now_firsts places now_places o fixed h here read sized few em ef ep es =
    let all = callees library (model_at library top (path_at library top k)) in
    let count = found_count library top (first_below library top k + j) signals_ models firsts
    places h in
    let next : first_below library top k + (j + 1) ≡ first_below library top k + j + 1 =
    omega arith in
    rw (next, em, ef, ep, es) (found_more library top (first_below library top k + j) k j names
    signals_ models firsts places h fixed refl o.inside (omega (arith, here, ap length o.calls))
    callee
    (called library row all j callee o.calls here read) sized (omega (arith, count, o.before)) few)

pub open_end : (library : List ModelOf) (top k m j : ℕ) (row : List ℕ) (signals : ℕ)
    (models firsts : List ℕ) (places : List (ℕ × ℕ))
    → IsOpening library top k m row → IsFound library top (first_below library top k + j) models
    firsts places signals
    → j ≡ length row → IsFound library top (first_below library top (k + 1)) models firsts places
    signals
open_end library top k m j row signals_ models firsts places o h e =
    let same : first_below library top (k + 1) ≡ first_below library top k + j =
    first_next library top k o.inside ∙ ap (λ n. first_below library top k + n) (sym (e
    ∙ ap length o.calls)) in
    let P : ℕ → Type 0 = λ q. IsFound library top q models firsts places signals_ in
    subst P (sym same) h

-- what the search for instances keeps stays within the list that it makes
pub still_within : (library : List ModelOf) (top k signals now_signals : ℕ)
    (models firsts now_models now_firsts : List ℕ)
    (places now_places : List (ℕ × ℕ)) → IsFound library top (first_below library top k) models
    firsts places signals
    → IsFound library top (first_below library top (k + 1)) now_models now_firsts now_places
    now_signals → k < length models
    → k + 1 ≤ length now_models
still_within library top k signals_ now_signals models firsts now_models now_firsts places
    now_places h now here =
    let size = found_models library top (first_below library top k) signals_ models firsts places h
    in
    let after = found_models library top (first_below library top (k + 1)) now_signals now_models
    now_firsts now_places now in
    let more = first_next library top k (omega (arith, size, here, h.within)) in
    omega (arith, size, after, more, here)

pub all_found : (library : List ModelOf) (top k signals : ℕ) (models firsts : List ℕ)
    (places : List (ℕ × ℕ))
    → IsFound library top (first_below library top k) models firsts places signals
    → IsGrowing library top → k ≤ length models
    → length models ≤ k
    → (is_too_large library top ≡ false) × IsFound library top (length (paths library top)) models
    firsts places signals
all_found library top k signals_ models firsts places h fixed a b =
    let size = found_models library top (first_below library top k) signals_ models firsts places h
    in
    let same : first_below library top k ≡ k = omega (arith, size, a, b) in
    let P : ℕ → Type 0 = λ q. IsFound library top q models firsts places signals_ in
    let here : IsFound library top k models firsts places signals_ = subst P same h in
    let whole : k ≡ length (paths library top) = found_all library top k signals_ models firsts
    places here fixed (sym same) in
    (found_few library top k signals_ models firsts places here whole, subst P whole here)

-- the instances right below instance i are among all
pub first_bound : (library : List ModelOf) (top i : ℕ) → IsGrowing library top
    → i < length (paths library top)
    → first_below library top i
    + length (callees library (model_at library top (path_at library top i)))
    ≤ length (paths library top)
first_bound library top i fixed inside =
    let row : length (below library top (path_at library top i))
    ≡ length (callees library (model_at library top (path_at library top i))) =
    length-map-range_with_len (λ position. position ∷ path_at library top i) 0
    (length (callees library (model_at library top (path_at library top i)))) in
    let most = length-flat_map-take (below library top) (paths library top) i [] inside in
    let size = ap length fixed in
    omega (arith, row, most, size)

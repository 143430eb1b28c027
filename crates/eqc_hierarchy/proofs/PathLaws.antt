-- The instances of a hierarchy: the list that begins with the main model and goes on with what is
-- right below
-- each of its own members.
use Rattle.std.proofs.Common.{zero-add, add-zero, ◌≡◌, ℕ, zero, suc, ◌+◌, ◌<◌, ◌≤◌, inl, inr, Bool}
use Rattle.std.proofs.Common.{true, List, [], ◌∷◌, ◌++◌, length, map, take, drop, get_or, refl, sym}
use Rattle.std.proofs.Common.{◌∙◌, ap, subst, arith}
use Rattle.std.specs.Prelude.{slice_index_or}
use Rattle.std.specs.List.{flat_map, range_with_len, list_all}
use Rattle.std.proofs.lemmas.Bool.{true≢false, and_parts}
use Rattle.std.proofs.lemmas.List.{take-append-drop, append-nil, map-append, ext_get_or, take_more}
use Rattle.std.proofs.lemmas.List.{length-append, length-take-le}
use Rattle.std.proofs.lemmas.List.Concat.{get_or-flat_map}
use Rattle.std.proofs.lemmas.List.Folds.{length-flat_map-take}
use Rattle.std.proofs.lemmas.List.FromFn.{get_or-map-range_with_len, length-map-range_with_len}
use Rattle.std.proofs.lemmas.Grind.{flat_map-append}
use Rattle.eqc_blif.specs.Netlist.{ModelOf}
use Rattle.eqc_netlist.specs.Dependency.{ends_within}
use Rattle.eqc_hierarchy.specs.Hierarchy.{callees, reached_within, model_at, below, paths_within}
use Rattle.eqc_hierarchy.specs.Hierarchy.{paths}
use Rattle.eqc_hierarchy.proofs.Distinct.{Member, Distinct, member_of_map, all_pieces}
use Rattle.eqc_hierarchy.proofs.Distinct.{distinct_flat_map, distinct_map, distinct_range}

-- the instances by exactly so many positions
level : List ModelOf → ℕ → ℕ → List (List ℕ)
level library top zero = [] ∷ []
level library top (suc n) = flat_map (below library top) (level library top n)

-- the instances by at most one position more are those by fewer, and then those by that many
paths_more : (library : List ModelOf) (top n : ℕ) → paths_within library top (suc n)
    ≡ paths_within library top n ++ level library top (suc n)
unfolding paths_within level
paths_more library top zero = refl
paths_more library top (suc n) =
    ap (λ xs. [] ∷ flat_map (below library top) xs) (paths_more library top n)
    ∙ ap (λ xs. [] ∷ xs) (flat_map-append (below library top) (paths_within library top n)
    (level library top (suc n)))

-- what is right below an instance is a position there
pub member_below : (library : List ModelOf) (top : ℕ) (path y : List ℕ)
    → Member y (below library top path) → (position : ℕ) × (y ≡ position ∷ path)
member_below library top path y h = let (k, there, same) = member_of_map (λ position. position
    ∷ path) y (range_with_len 0 (length (callees library (model_at library top path)))) h in
    (k, sym same)

tail : List ℕ → List ℕ
tail [] = []
tail (x ∷ xs) = xs

tail_below : (library : List ModelOf) (top : ℕ) (path y : List ℕ)
    → Member y (below library top path) → tail y ≡ path
unfolding tail
tail_below library top path y h = let (k, same) = member_below library top path y h in ap tail same

-- all that a model calls ends within a depth where the model ends within the next
callee_ends : (deps : List ℕ) (p : ℕ → Bool) (k d : ℕ) → list_all p deps ≡ true → k < length deps
    → p (slice_index_or deps k d) ≡ true
callee_ends [] p k d e h = absurd (omega arith)
callee_ends (x ∷ deps) p zero d e h = (and_parts (p x) (list_all p deps) e).0
callee_ends (x ∷ deps) p (suc k) d e h =
    callee_ends deps p k d ((and_parts (p x) (list_all p deps) e).1) (omega arith)

pub range_below : (a n y : ℕ) → Member y (range_with_len a n) → y < a + n
range_below a zero y h = absurd h
range_below a (suc n) y (inl h) = omega (arith, h)
range_below a (suc n) y (inr h) = let k : y < a + 1 + n = range_below (a + 1) n y h in
    omega (arith, k)

-- below a model that ends within a depth, the instances by so many positions end within the rest of
-- it
level_ends : (library : List ModelOf) (top n d : ℕ) → ends_within (callees library) (n + d) top
    ≡ true → (path : List ℕ)
    → Member path (level library top n)
    → ends_within (callees library) d (model_at library top path) ≡ true
unfolding model_at level
level_ends library top zero d e path (inl h) = rw (sym h) (rw zero-add at e)
level_ends library top zero d e path (inr h) = absurd h
level_ends library top (suc n) d e path h =
    all_pieces (λ y. ends_within (callees library) d (model_at library top y) ≡ true)
    (below library top) (level library top n)
    (each (level_ends library top n (suc d) (let same : suc n + d ≡ n + suc d = omega arith in
    rw same at e))) path h
  where
    each : ((x : List ℕ) → Member x (level library top n)
        → ends_within (callees library) (suc d) (model_at library top x) ≡ true)
        → (x y : List ℕ) → Member x (level library top n) → Member y (below library top x)
        → ends_within (callees library) d (model_at library top y) ≡ true
    each up x y there here =
        let (k, within, same) = member_of_map (λ position. position ∷ x) y
        (range_with_len 0 (length (callees library (model_at library top x)))) here in
        let deep : ends_within (callees library) (suc d) (model_at library top x) ≡ true =
        up x there in
        let inside : k < length (callees library (model_at library top x)) =
        let b : k < 0 + length (callees library (model_at library top x)) =
        range_below 0 (length (callees library (model_at library top x))) k within in
        omega (arith, b) in
        let P : List ℕ → Type 0 = λ w. ends_within (callees library) d (model_at library top w)
        ≡ true in
        subst P same (callee_ends (callees library (model_at library top x))
        (ends_within (callees library) d) k (length library) deep inside)

none_in : {X : Type 0} (xs : List X) → ((x : X) → Member x xs → ⊥) → xs ≡ []
none_in [] h = refl
none_in (x ∷ xs) h = absurd (h x (inl refl))

-- without recursion the list of instances begins with the main model and goes on with what is right
-- below each
pub paths_fixed : (library : List ModelOf) (top : ℕ)
    → ends_within (callees library) (suc (length library)) top ≡ true → paths library top ≡ []
    ∷ flat_map (below library top) (paths library top)
unfolding paths_within
paths_fixed library top e =
    let n : ℕ = length library in
    let deep : ends_within (callees library) (suc n + 0) top ≡ true = rw add-zero e in
    let none : level library top (suc n) ≡ [] = none_in (level library top (suc n))
    (λ path h. absurd (true≢false (sym (level_ends library top (suc n) 0 deep path h)))) in
    sym (paths_more library top n ∙ (ap (λ xs. paths_within library top n ++ xs) none
    ∙ append-nil (paths_within library top n)))

-- no instance stands twice
pub paths_distinct : (library : List ModelOf) (top : ℕ) → Distinct (paths library top)
unfolding paths_within
paths_distinct library top = within (length library)
  where
    positions : (path : List ℕ) → Distinct (below library top path)
    positions path =
        distinct_map (λ position. position ∷ path)
        (range_with_len 0 (length (callees library (model_at library top path))))
        (λ x z e. ap (head_or 0) e)
        (distinct_range 0 (length (callees library (model_at library top path))))
      where
        head_or : ℕ → List ℕ → ℕ
        head_or d [] = d
        head_or d (x ∷ xs) = x

    root : (n : ℕ) → Member [] (flat_map (below library top) (paths_within library top n)) → ⊥
    root n h =
        all_pieces (λ y. y ≡ [] → ⊥) (below library top) (paths_within library top n)
        (λ x y there here e.
        let (k, same) = member_below library top x y here in
        let long : length y ≡ suc (length x) = ap length same in
        let none : length y ≡ 0 = ap length e in absurd (omega (arith, long, none))) [] h refl

    within : (n : ℕ) → Distinct (paths_within library top n)
    within zero = (λ e. e, tt)
    within (suc n) = (
      root n,
      distinct_flat_map tail (below library top) (paths_within library top
          n) (tail_below library top) positions (within n),
    )

-- the models of the instances are those that the main model reaches
pub models_reached : (library : List ModelOf) (top n : ℕ)
    → map (model_at library top) (paths_within library top n) ≡ reached_within library top n
unfolding paths_within reached_within model_at
models_reached library top zero = refl
models_reached library top (suc n) = ap (λ xs. top ∷ xs) (each (paths_within library top n)
    ∙ ap (flat_map (callees library)) (models_reached library top n))
  where
    row : (path : List ℕ) → map (model_at library top) (below library top path)
        ≡ callees library (model_at library top path)
    row path = fused (range_with_len 0 (length (callees library (model_at library top path))))
        ∙ nth (callees library (model_at library top path))
      where
        fused : (ks : List ℕ) → map (model_at library top) (map (λ position. position ∷ path) ks)
            ≡ map (λ k. slice_index_or (callees library (model_at library top path)) k
            (length library)) ks
        fused [] = refl
        fused (k ∷ ks) = ap (λ xs. slice_index_or (callees library (model_at library top path)) k
            (length library) ∷ xs) (fused ks)

        nth : (xs : List ℕ) → map (λ k. slice_index_or xs k (length library))
            (range_with_len 0 (length xs)) ≡ xs
        nth xs =
            ext_get_or (length library) (map (λ k. slice_index_or xs k (length library))
            (range_with_len 0 (length xs))) xs
            (length-map-range_with_len (λ k. slice_index_or xs k (length library)) 0 (length xs))
            (λ i h.
            get_or-map-range_with_len (λ k. slice_index_or xs k (length library)) 0 (length xs) i i
            (length library)
            (rw length-map-range_with_len at h) (omega arith))

    each : (xs : List (List ℕ)) → map (model_at library top) (flat_map (below library top) xs)
        ≡ flat_map (callees library) (map (model_at library top) xs)
    each [] = refl
    each (x ∷ xs) =
        map-append (model_at library top) (below library top x) (flat_map (below library top) xs)
        ∙ (ap (λ ys. ys ++ map (model_at library top) (flat_map (below library top) xs)) (row x)
        ∙ ap (λ ys. callees library (model_at library top x) ++ ys) (each xs))

-- the number of the first instance right below another
abbrev pub first_below : List ModelOf → ℕ → ℕ → ℕ
first_below library top k = suc (length (flat_map (below library top) (take k (paths library top))))

-- the instance at a position of another stands in the list at its number
pub next_path : (library : List ModelOf) (top k j : ℕ) → paths library top ≡ []
    ∷ flat_map (below library top) (paths library top)
    → k < length (paths library top)
    → j < length (callees library (model_at library top (slice_index_or (paths library top) k [])))
    → slice_index_or (paths library top) (first_below library top k + j) [] ≡ j
    ∷ slice_index_or (paths library top) k []
next_path library top k j fixed inside here =
    let all = paths library top in
    let at :
    get_or (flat_map (below library top) all) (length (flat_map (below library top) (take k all))
    + j) []
    ≡ get_or (below library top (get_or all k [])) j [] =
    get_or-flat_map (below library top) all k j [] [] inside (rw length-map-range_with_len here) in
    let one : get_or (below library top (get_or all k [])) j [] ≡ j ∷ get_or all k [] =
    get_or-map-range_with_len (λ position. position ∷ get_or all k []) 0
    (length (callees library (model_at library top (get_or all k [])))) j j [] here (omega arith) in
    let number : suc (length (flat_map (below library top) (take k all))) + j
    ≡ suc (length (flat_map (below library top) (take k all)) + j) = omega arith in
    ap (λ xs. get_or xs (suc (length (flat_map (below library top) (take k all))) + j) []) fixed
    ∙ (ap (λ n. get_or ([] ∷ flat_map (below library top) all) n []) number ∙ (at ∙ one))

-- that number is within the list
pub next_inside : (library : List ModelOf) (top k j : ℕ)
    → paths library top ≡ [] ∷ flat_map (below library top) (paths library top)
    → k < length (paths library top)
    → j < length (callees library (model_at library top (slice_index_or (paths library top) k [])))
    → first_below library top k + j < length (paths library top)
next_inside library top k j fixed inside here =
    let all = paths library top in
    let row : length (below library top (get_or all k []))
    ≡ length (callees library (model_at library top (get_or all k []))) =
    length-map-range_with_len (λ position. position ∷ get_or all k []) 0
    (length (callees library (model_at library top (get_or all k [])))) in
    let most :
    length (flat_map (below library top) (take k all))
    + length (below library top (get_or all k []))
    ≤ length (flat_map (below library top) all) =
    length-flat_map-take (below library top) all k [] inside in
    let size : length all ≡ suc (length (flat_map (below library top) all)) = ap length fixed in
    omega (arith, row, most, size, here)

-- the next instance's first instance below comes after those of this one
pub first_next : (library : List ModelOf) (top k : ℕ) → k < length (paths library top)
    → first_below library top (k + 1)
    ≡ first_below library top k
    + length (callees library (model_at library top (slice_index_or (paths library top) k [])))
first_next library top k inside =
    let all = paths library top in
    let row : length (below library top (get_or all k []))
    ≡ length (callees library (model_at library top (get_or all k []))) =
    length-map-range_with_len (λ position. position ∷ get_or all k []) 0
    (length (callees library (model_at library top (get_or all k [])))) in
    let more : flat_map (below library top) (take (k + 1) all) ≡ flat_map (below library top)
    (take k all) ++ below library top (get_or all k []) =
    ap (flat_map (below library top)) (take_more all k [] inside)
    ∙ (flat_map-append (below library top) (take k all) (get_or all k [] ∷ [])
    ∙ ap (λ xs. flat_map (below library top) (take k all) ++ xs)
    (append-nil (below library top (get_or all k [])))) in
    ap suc (ap length more ∙ length-append (flat_map (below library top) (take k all))
    (below library top (get_or all k []))) ∙ omega (arith, row)

-- a list of instances that is what is right below its own members is empty: no instance is below
-- itself
deeper : (library : List ModelOf) (top : ℕ) (xs : List (List ℕ))
    → xs ≡ flat_map (below library top) xs → (d : ℕ) (y : List ℕ) → Member y xs → d ≤ length y
deeper library top xs e zero y h = omega arith
deeper library top xs e (suc d) y h =
    all_pieces (λ y. suc d ≤ length y) (below library top) xs
    (λ x y there here.
    let (k, same) = member_below library top x y here in
    let long : length y ≡ suc (length x) = ap length same in
    let up : d ≤ length x = deeper library top xs e d x there in omega (arith, long, up)) y
    (let P : List (List ℕ) → Type 0 = λ w. Member y w in subst P e h)

none_below : (library : List ModelOf) (top : ℕ) (xs : List (List ℕ))
    → xs ≡ flat_map (below library top) xs → xs ≡ []
none_below library top xs e = none_in xs (λ y h. let k : suc (length y) ≤ length y =
    deeper library top xs e (suc (length y)) y h in absurd (omega (arith, k)))

-- where all that was found has been gone through, all instances were found
pub paths_whole : (library : List ModelOf) (top q : ℕ) → paths library top ≡ []
    ∷ flat_map (below library top) (paths library top)
    → q ≤ length (paths library top) → q ≡ first_below library top q
    → q ≡ length (paths library top)
paths_whole library top q fixed inside e =
    let all = paths library top in
    let front = take q all in
    let rest = drop q all in
    let split : front ++ rest ≡ all = take-append-drop q all in
    let size : length front ≡ q = length-take-le q all inside in
    let doubled : front ++ rest ≡ ([] ∷ flat_map (below library top) front)
    ++ flat_map (below library top) rest =
    split ∙ (fixed ∙ (ap (λ xs. [] ∷ flat_map (below library top) xs) (sym split)
    ∙ ap (λ xs. [] ∷ xs) (flat_map-append (below library top) front rest))) in
    let same : rest ≡ flat_map (below library top) rest =
    backs front ([] ∷ flat_map (below library top) front) rest (flat_map (below library top)
    rest) (size ∙ e) doubled in
    let none : rest ≡ [] = none_below library top rest same in
    sym size ∙ ap length (sym (append-nil front) ∙ (ap (λ xs. front ++ xs) (sym none) ∙ split))
  where
    backs : (a b c d : List (List ℕ)) → length a ≡ length b → a ++ c ≡ b ++ d → c ≡ d
    backs [] [] c d e h = h
    backs [] (y ∷ b) c d e h = absurd (omega (arith, e))
    backs (x ∷ a) [] c d e h = absurd (omega (arith, e))
    backs (x ∷ a) (y ∷ b) c d e h = backs a b c d (omega (arith, e)) (ap tails h)
      where
        tails : List (List ℕ) → List (List ℕ)
        tails [] = []
        tails (z ∷ zs) = zs

pub first_inside : (library : List ModelOf) (top : ℕ) → 0 < length (paths library top)
unfolding paths_within
first_inside library top = by (length library)
  where
    by : (n : ℕ) → 0 < length (paths_within library top n)
    by zero = omega arith
    by (suc n) = omega arith

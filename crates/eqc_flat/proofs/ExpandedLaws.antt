-- What is read off a hierarchy whose instances were all found.
use Rattle.std.proofs.Common.{◌≡◌, ℕ, suc, ◌+◌, ◌<◌, ◌≤◌, Bool, true, false, not, List, [], ◌∷◌}
use Rattle.std.proofs.Common.{◌++◌, length, map, take, drop, get_or, refl, sym, ◌∙◌, ap, arith}
use Rattle.std.proofs.Common.{subst}
use Rattle.std.specs.Prelude.{slice_index_or}
use Rattle.std.specs.List.{flat_map, range_with_len}
use Rattle.std.proofs.lemmas.Bool.{true≢false}
use Rattle.std.proofs.lemmas.List.{ext_get_or, take-append-drop, length-append, map-append}
use Rattle.std.proofs.lemmas.List.{append-nil, take_more, map-id, get_or-map, length-map}
use Rattle.std.proofs.lemmas.List.FromFn.{get_or-map-range_with_len, length-map-range_with_len}
use Rattle.std.proofs.lemmas.List.FromFn.{map-range_with_len_more}
use Rattle.std.proofs.lemmas.Grind.{flat_map-append}
use Rattle.eqc_blif.specs.Netlist.{ModelOf, no_model, CoverOf, no_cover}
use Rattle.eqc_netlist.specs.Names.{is_named}
use Rattle.eqc_hierarchy.specs.Hierarchy.{model, callees, paths, model_number, model_at}
use Rattle.eqc_netlist.specs.Dependency.{ends_within}
use Rattle.eqc_hierarchy.specs.Codes.{is_recursive, has_unknown_formal}
use Rattle.eqc_flat.specs.RowTable.{rows_of, IsRowTable, all_rows}
use Rattle.eqc_hierarchy.specs.Signals.{names_of, signals_at, signals}
use Rattle.eqc_flat.specs.Flattened.{path_at, model_of, signal_at, first_signal, named_here}
use Rattle.eqc_flat.specs.Flattened.{all_named}
use Rattle.eqc_flat.specs.Instances.{IsGrowing}
use Rattle.eqc_hierarchy.proofs.PathLaws.{paths_fixed}
use Rattle.eqc_flat.proofs.NumberLaws.{signal_here, signal_inside}
use Rattle.std.proofs.lemmas.List.Concat.{get_or-flat_map}
use Rattle.std.proofs.lemmas.List.Folds.{length-flat_map-take}
use Rattle.eqc_hierarchy.proofs.Distinct.{member_get}
use Rattle.eqc_hierarchy.proofs.NamingLaws.{no_instance, callee_at, formal_there}

-- the signal of a name of an instance, by the instance's first signal and the name's place
pub signal_is : (library : List ModelOf) (top i n k : ℕ) (name : List ℕ)
    → i < length (paths library top)
    → n ≡ first_signal library top i → k < length (names_of (model_of library top i))
    → slice_index_or (names_of (model_of library top i)) k [] ≡ name
    → signal_at library top (n + k) ≡ record { path = path_at library top i; name = name }
signal_is library top i n k name inside first here is =
    ap (λ f. signal_at library top (f + k)) first ∙ (signal_here library top i k inside here
    ∙ ap (λ (x : List ℕ). record { path = path_at library top i; name = x }) is)

pub signal_within : (library : List ModelOf) (top i n k : ℕ) → i < length (paths library top)
    → n ≡ first_signal library top i
    → k < length (names_of (model_of library top i)) → n + k < length (signals library top)
signal_within library top i n k inside first here = let there = signal_inside library top i k inside
    here in omega (arith, first, there)

-- a list is its elements at their places
pub places_of : {X : Type 0} (xs : List X) (d : X)
    → map (λ i. get_or xs i d) (range_with_len 0 (length xs)) ≡ xs
places_of xs d =
    ext_get_or d (map (λ i. get_or xs i d) (range_with_len 0 (length xs))) xs
    (length-map-range_with_len (λ i. get_or xs i d) 0 (length xs))
    (λ i h. get_or-map-range_with_len (λ i. get_or xs i d) 0 (length xs) i i d
    (rw length-map-range_with_len at h) (omega arith))

map_pieces : {A B C : Type 0} (h : B → C) (f : A → List B) (xs : List A) → map h (flat_map f xs)
    ≡ flat_map (λ x. map h (f x)) xs
map_pieces h f [] = refl
map_pieces h f (x ∷ xs) = map-append h (f x) (flat_map f xs)
    ∙ ap (λ ys. map h (f x) ++ ys) (map_pieces h f xs)

pieces_map : {A B C : Type 0} (f : B → List C) (g : A → B) (xs : List A) → flat_map f (map g xs)
    ≡ flat_map (λ x. f (g x)) xs
pieces_map f g [] = refl
pieces_map f g (x ∷ xs) = ap (λ ys. f (g x) ++ ys) (pieces_map f g xs)

same_pieces : {A B : Type 0} (f g : A → List B) (xs : List A) → ((x : A) → f x ≡ g x)
    → flat_map f xs ≡ flat_map g xs
same_pieces f g [] h = refl
same_pieces f g (x ∷ xs) h = rw (h x, same_pieces f g xs h) refl

two_maps : {A B C : Type 0} (h : B → C) (g : A → B) (xs : List A) → map h (map g xs)
    ≡ map (λ x. h (g x)) xs
two_maps h g [] = refl
two_maps h g (x ∷ xs) = ap (λ ys. h (g x) ∷ ys) (two_maps h g xs)

-- the flat signals are those that are named, each with its instance
pub signals_named : (library : List ModelOf) (top : ℕ) → signals library top
    ≡ map (λ s. record { path = path_at library top s.0; name = s.1 }) (all_named library top)
unfolding signals
signals_named library top =
    let n = length (paths library top) in
    let by_number : flat_map (signals_at library top) (paths library top)
    ≡ flat_map (λ i. signals_at library top (path_at library top i)) (range_with_len 0 n) =
    ap (flat_map (signals_at library top)) (sym (places_of (paths library top) []))
    ∙ pieces_map (signals_at library top) (path_at library top) (range_with_len 0 n) in
    by_number
    ∙ (same_pieces (λ i. signals_at library top (path_at library top i))
    (λ i. map (λ (s : ℕ × List ℕ). record { path = path_at library top s.0; name = s.1 })
    (named_here library top i))
    (range_with_len 0 n)
    (λ i.
    sym (two_maps (λ (s : ℕ × List ℕ). record { path = path_at library top s.0; name = s.1 })
    (λ name. (i, name))
    (names_of (model_of library top i))))
    ∙ sym (map_pieces (λ (s : ℕ × List ℕ). record { path = path_at library top s.0; name = s.1 })
    (named_here library top) (range_with_len 0 n)))

-- a main model whose models never reach themselves has a list of instances
pub growing : (library : List ModelOf) (top : ℕ) → is_recursive library top ≡ false
    → IsGrowing library top
unfolding is_recursive
growing library top e = paths_fixed library top
    (not_false (ends_within (callees library) (suc (length library)) top) e)
  where
    not_false : (b : Bool) → not b ≡ false → b ≡ true
    not_false true k = refl
    not_false false k = absurd (true≢false k)

-- the number of the first rows of a model
pub row_first : (library : List ModelOf) (firsts : List ℕ) (rows : List (List (List ℕ))) (m n : ℕ)
    → IsRowTable library firsts rows → m < length library → n ≡ slice_index_or firsts m n
    → n ≡ length (flat_map rows_of (take m library))
row_first library firsts rows m n h inside read =
    read
    ∙ (ap (λ xs. get_or xs m n) h.firsts_of
    ∙ get_or-map-range_with_len (λ m. length (flat_map rows_of (take m library))) 0 (length library)
    m m n inside (omega arith))

pub row_firsts : (library : List ModelOf) (firsts : List ℕ) (rows : List (List (List ℕ)))
    → IsRowTable library firsts rows → length firsts ≡ length library
row_firsts library firsts rows h = ap length h.firsts_of
    ∙ length-map-range_with_len (λ m. length (flat_map rows_of (take m library))) 0 (length library)

-- the rows of one model more
pub rows_more : (library : List ModelOf) (m : ℕ) → m < length library
    → flat_map rows_of (take (m + 1) library) ≡ flat_map rows_of (take m library)
    ++ rows_of (model library m)
rows_more library m inside =
    ap (flat_map rows_of) (take_more library m no_model inside)
    ∙ (flat_map-append rows_of (take m library) (model library m ∷ [])
    ∙ ap (λ xs. flat_map rows_of (take m library) ++ xs) (append-nil (rows_of (model library m))))

-- the pieces for one number more
pub range_more : {X : Type 0} (f : ℕ → List X) (k : ℕ) → flat_map f (range_with_len 0 (k + 1))
    ≡ flat_map f (range_with_len 0 k) ++ f k
range_more f k =
    ap (flat_map f) (sym (map-id (range_with_len 0 (k + 1)))
    ∙ (map-range_with_len_more (λ (i : ℕ). i) 0 k k (omega arith)
    ∙ ap (λ xs. xs ++ k ∷ []) (map-id (range_with_len 0 k))))
    ∙ (flat_map-append f (range_with_len 0 k) (k ∷ []) ∙ ap (λ xs. flat_map f (range_with_len 0 k)
    ++ xs) (append-nil (f k)))

-- the first signal of an instance is at most as far as there are signals
pub first_most : (library : List ModelOf) (top i : ℕ) → first_signal library top i
    ≤ length (signals library top)
unfolding signals
first_most library top i =
    let f = signals_at library top in
    let all = paths library top in
    let whole : flat_map f all ≡ flat_map f (take i all) ++ flat_map f (drop i all) =
    ap (flat_map f) (sym (take-append-drop i all)) ∙ flat_map-append f (take i all) (drop i all)
    in
    omega (
      arith,
      ap length whole,
      length-append (flat_map f (take i all))
          (flat_map f (drop i all)),
    )

-- the same by the numbers of the instance, its position and the pair
pub formal_known : (library : List ModelOf) (top i p j : ℕ) → has_unknown_formal library top ≡ false
    → i < length (paths library top)
    → p < length (model library (model_at library top (path_at library top i))).instances
    → j < length (slice_index_or
    (model library (model_at library top (path_at library top i))).instances p no_instance).pairs
    → (callee : ℕ) → callee ≡ slice_index_or
    (callees library (model_at library top (path_at library top i))) p (length library)
    → is_named ((model library callee).inputs ++ (model library callee).outputs)
    (slice_index_or (slice_index_or
    (model library (model_at library top (path_at library top i))).instances p
    no_instance).pairs j
    ([], [])).0
    ≡ true
formal_known library top i p j none inside here there callee calls =
    let path = path_at library top i in
    let instances = (model library (model_at library top path)).instances in
    let one = get_or instances p no_instance in
    let pair = get_or one.pairs j ([], []) in
    let same : callee ≡ model_number library one.model = calls
    ∙ callee_at library (model_at library top path) p here in
    let R : ℕ → Type 0 = λ c. is_named ((model library c).inputs ++ (model library c).outputs)
    pair.0 ≡ true in
    subst R (sym same) (formal_there library top path one pair none (member_get (paths library top)
    i [] inside) (member_get instances p no_instance here) (member_get one.pairs j ([], [])
    there))

-- the rows of a model's cover, among those of all covers
pub rows_at : (library : List ModelOf) (m k : ℕ) → m < length library
    → k < length (model library m).covers
    → slice_index_or (all_rows library) (length (flat_map rows_of (take m library)) + k) []
    ≡ (slice_index_or (model library m).covers k no_cover).rows
rows_at library m k inside here =
    get_or-flat_map rows_of library m k no_model [] inside (rw length-map here)
    ∙ get_or-map (λ (c : CoverOf). c.rows) (model library m).covers k no_cover [] here

pub rows_inside : (library : List ModelOf) (m k : ℕ) → m < length library
    → k < length (model library m).covers → length (flat_map rows_of (take m library)) + k
    < length (all_rows library)
rows_inside library m k inside here =
    let most = length-flat_map-take rows_of library m no_model inside in
    omega (arith, most, length-map (model library m).covers (λ (c : CoverOf). c.rows), here)

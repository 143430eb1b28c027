-- The size of a hierarchy, counted model by model, is the number of its flat signals and instances.
use Rattle.std.proofs.Common.{
  ◌≡◌,
  ℕ,
  zero,
  suc,
  ◌+◌,
  ◌-◌,
  ◌<◌,
  inl,
  inr,
  Bool,
  true,
  false,
  List,
  [],
  ◌∷◌,
  length,
  map,
  take,
  set,
  get_or,
  refl,
  sym,
  ◌∙◌,
  ap,
  subst,
  arith,
  Option,
  None,
  nat_lt,
  zero-add,
}
use Rattle.std.specs.List.{list_all, flat_map, sum_by}
use Rattle.std.proofs.lemmas.Bool.{and_parts, true≢false, cases_eq, ltb-true}
use Rattle.std.proofs.lemmas.List.{length-map, length-take-le, take_more, get_or-take}
use Rattle.std.proofs.lemmas.List.{get_or-set_same, get_or-set_other}
use Rattle.std.proofs.lemmas.List.Sums.{sum_by-cons, sum_by-append, sum_by_more}
use Rattle.std.proofs.lemmas.List.Concat.{length-flat_map}
use Rattle.eqc_blif.specs.Netlist.{ModelOf}
use Rattle.eqc_netlist.specs.Dependency.{among, ends_within}
use Rattle.eqc_hierarchy.specs.Hierarchy.{model, callees, model_at, reached_within, reached, paths}
use Rattle.eqc_hierarchy.specs.Signals.{SignalOf, names_of, signals_at, signals}
use Rattle.eqc_hierarchy.specs.Sizes.{IsTold, size_within, model_size, IsCallOrder}
use Rattle.eqc_hierarchy.specs.Codes.{is_recursive}
use Rattle.eqc_hierarchy.specs.Searching.{IsSearch}
use Rattle.eqc_hierarchy.specs.declared.search.Stage.{Stage}
use Rattle.eqc_netlist.proofs.Depth.{ordered_ends}
use Rattle.eqc_netlist.proofs.Orders.{among_push}
use Rattle.eqc_netlist.proofs.Members.{among_at, before_at, all_at}
use Rattle.eqc_hierarchy.proofs.ModelFaultLaws.{ends_below, recursive_is}
use Rattle.eqc_hierarchy.proofs.PathLaws.{models_reached, first_inside}

-- ---- sums

sum_same : (f g : ℕ → ℕ) (xs : List ℕ) → ((x : ℕ) → f x ≡ g x) → sum_by f xs ≡ sum_by g xs
sum_same f g [] h = refl
sum_same f g (x ∷ xs) h = omega (
  arith,
  sum_by-cons f x xs,
  sum_by-cons g x xs,
  h x,
  sum_same f g xs h,
)

sum_agree : (p : ℕ → Bool) (f g : ℕ → ℕ) (xs : List ℕ) → ((x : ℕ) → p x ≡ true → f x ≡ g x)
    → list_all p xs ≡ true → sum_by f xs ≡ sum_by g xs
sum_agree p f g [] h e = refl
sum_agree p f g (x ∷ xs) h e =
    let both = and_parts (p x) (list_all p xs) e in
    omega (arith, sum_by-cons f x xs, sum_by-cons g x xs, h x both.0, sum_agree p f g xs h both.1)

sum_plus : (f g : ℕ → ℕ) (xs : List ℕ) → sum_by (λ x. f x + g x) xs ≡ sum_by f xs + sum_by g xs
sum_plus f g [] = refl
sum_plus f g (x ∷ xs) = omega (
  arith,
  sum_by-cons (λ x. f x + g x) x xs,
  sum_by-cons f x xs,
  sum_by-cons g x xs,
  sum_plus f g xs,
)

sum_ones : (f : ℕ → ℕ) (xs : List ℕ) → sum_by (λ x. f x + 1) xs ≡ sum_by f xs + length xs
sum_ones f [] = refl
sum_ones f (x ∷ xs) = omega (
  arith,
  sum_by-cons (λ x. f x + 1) x xs,
  sum_by-cons f x xs,
  sum_ones f xs,
)

sum_flat : (f : ℕ → ℕ) (next : ℕ → List ℕ) (xs : List ℕ) → sum_by f (flat_map next xs)
    ≡ sum_by (λ x. sum_by f (next x)) xs
sum_flat f next [] = refl
sum_flat f next (x ∷ xs) = omega (
  arith,
  sum_by-append f (next x) (flat_map next xs),
  sum_by-cons (λ x. sum_by f (next x)) x xs,
  sum_flat f next xs,
)

sum_map : {X : Type 0} (f : ℕ → ℕ) (g : X → ℕ) (xs : List X) → sum_by f (map g xs)
    ≡ sum_by (λ x. f (g x)) xs
sum_map f g [] = refl
sum_map f g (x ∷ xs) = omega (
  arith,
  sum_by-cons f (g x) (map g xs),
  sum_by-cons (λ x. f (g x)) x
      xs,
  sum_map f g xs,
)

-- ---- a weight of the models that are reached, by instances

-- the weights of a model and of those below it, by at most so many instances below one another
weight_within : (ℕ → List ℕ) → (ℕ → ℕ) → ℕ → ℕ → ℕ
weight_within next f zero m = f m
weight_within next f (suc n) m = f m + sum_by (weight_within next f n) (next m)

-- one step first, or one step last
weight_last : (next : ℕ → List ℕ) (f : ℕ → ℕ) (n m : ℕ)
    → weight_within next (λ x. sum_by f (next x)) n m ≡ sum_by (weight_within next f n) (next m)
unfolding weight_within
weight_last next f zero m = refl
weight_last next f (suc n) m =
    ap (λ k. sum_by f (next m) + k) (sum_same (weight_within next (λ x. sum_by f (next x)) n)
    (λ c. sum_by (weight_within next f n) (next c)) (next m) (weight_last next f n))
    ∙ sym (sum_plus f (λ c. sum_by (weight_within next f n) (next c)) (next m))

reached_weight : (library : List ModelOf) (top : ℕ) (f : ℕ → ℕ) (n : ℕ)
    → sum_by f (reached_within library top n) ≡ weight_within (callees library) f n top
unfolding reached_within weight_within
reached_weight library top f zero = zero-add (f top)
reached_weight library top f (suc n) =
    sum_by-cons f top (flat_map (callees library) (reached_within library top n))
    ∙ ap (λ k. f top + k) (sum_flat f (callees library) (reached_within library top n)
    ∙ (reached_weight library top (λ x. sum_by f (callees library x)) n
    ∙ weight_last (callees library) f n top))

-- ---- the size is the number of signals and instances

-- the names in a model
abbrev pub names : List ModelOf → ℕ → ℕ
names library m = length (names_of (model library m))

size_weight : (library : List ModelOf) (n m : ℕ)
    → weight_within (callees library) (λ x. names library x + 1) n m ≡ size_within library n m + 1
unfolding weight_within size_within
size_weight library zero m = refl
size_weight library (suc n) m =
    omega (
      arith,
      sum_same (weight_within (callees library) (λ x. names library x + 1) n)
          (λ c. size_within library n c + 1) (callees library m) (size_weight library n),
    )

signals_counted : (library : List ModelOf) (top : ℕ) → length (signals library top)
    ≡ sum_by (names library) (reached library top)
unfolding signals
signals_counted library top =
    length-flat_map (signals_at library top) (paths library top)
    ∙ (each (paths library top)
    ∙ (sym (sum_map (names library) (model_at library top) (paths library top))
    ∙ ap (sum_by (names library)) (models_reached library top (length library))))
  where
    here : (x : List ℕ) → length (signals_at library top x) ≡ names library (model_at library top x)
    here x = length-map {B = SignalOf} (names_of (model library (model_at library top x)))
        (λ name. record { path = x; name = name })

    each : (xs : List (List ℕ)) → sum_by (λ x. length (signals_at library top x)) xs
        ≡ sum_by (λ x. names library (model_at library top x)) xs
    each [] = refl
    each (x ∷ xs) = omega (
      arith,
      sum_by-cons (λ x. length (signals_at library top x)) x xs,
      sum_by-cons (λ x. names library (model_at library top x)) x xs,
      here x,
      each xs,
    )

pub size_counted : (library : List ModelOf) (top : ℕ) → length (signals library top)
    + (length (paths library top) - 1) ≡ model_size library top
size_counted library top =
    let all = reached library top in
    let instances : length all ≡ length (paths library top) =
    ap length (sym (models_reached library top (length library)))
    ∙ length-map (paths library top) (model_at library top) in
    let weight = sym (sum_ones (names library) all)
    ∙ (reached_weight library top (λ x. names library x + 1) (length library)
    ∙ size_weight library (length library) top) in
    omega (arith, signals_counted library top, instances, weight, first_inside library top)

-- ---- a model's size follows from those of its callees

-- what ends within a depth has its size within one instance less
size_stays : (library : List ModelOf) (d m : ℕ) → ends_within (callees library) (suc d) m ≡ true
    → size_within library (suc d) m ≡ size_within library d m
unfolding size_within
size_stays library zero m e = omega (arith, none (callees library m) e)
  where
    none : (xs : List ℕ) → list_all (ends_within (callees library) zero) xs ≡ true
        → sum_by (λ c. size_within library zero c + 1) xs ≡ 0
    none [] h = refl
    none (x ∷ xs) h = absurd (true≢false (sym h))
size_stays library (suc d) m e =
    ap (λ k. length (names_of (model library m)) + k)
    (sum_agree (ends_within (callees library) (suc d)) (λ c. size_within library (suc d) c + 1)
    (λ c. size_within library d c + 1)
    (callees library m) (λ c h. ap (λ k. k + 1) (size_stays library d c h)) e)

pub size_step : (library : List ModelOf) (m : ℕ)
    → ends_within (callees library) (suc (length library)) m ≡ true
    → length (names_of (model library m)) + sum_by (λ c. model_size library c + 1)
    (callees library m) ≡ model_size library m
unfolding size_within
size_step library m e = size_stays library (length library) m e

-- ---- what is told of the sizes of models

-- one callee more
pub told_more : (library : List ModelOf) (m i : ℕ) (items : List ℕ) (sizes : List (Option ℕ))
    (size next below : Option ℕ) → items ≡ callees library m → i < length items
    → ((c : ℕ) → among (callees library m) c ≡ true
    → IsTold (get_or sizes c None) (model_size library c))
    → ((k n : ℕ) → IsTold size k → IsTold below n → IsTold next (k + n + 1))
    → below ≡ get_or sizes (get_or items i 0) None
    → IsTold size (names library m + sum_by (λ c. model_size library c + 1)
    (take i (callees library m)))
    → IsTold next (names library m + sum_by (λ c. model_size library c + 1)
    (take (i + 1) (callees library m)))
told_more library m i items sizes size next below is inside known sum read told =
    let f : ℕ → ℕ = λ c. model_size library c + 1 in
    let called : among (callees library m) (get_or items i 0) ≡ true =
    ap (λ l. among l (get_or items i 0)) (sym is) ∙ among_at items i inside in
    let more : sum_by f (take (i + 1) (callees library m)) ≡ sum_by f (take i (callees library m))
    + f (get_or (callees library m) i 0) =
    sum_by_more f (callees library m) i 0 (omega (arith, inside, ap length is)) in
    let same : get_or (callees library m) i 0 ≡ get_or items i 0 = ap (λ l. get_or l i 0) (sym is)
    in
    let P : Option ℕ → Type 0 = λ o. IsTold o (model_size library (get_or items i 0)) in
    let next_told = sum (names library m + sum_by f (take i (callees library m)))
    (model_size library (get_or items i 0)) told (subst P (sym read) (known (get_or items i 0)
    called)) in
    subst (IsTold next) (omega (arith, more, ap f same)) next_told

-- the size of one model more
pub sized_more : (library : List ModelOf) (order : List ℕ) (k : ℕ) (sizes : List (Option ℕ))
    (size : Option ℕ) → IsCallOrder library order → k < length order → length sizes ≡ length library
    + 1
    → IsTold size (names library (get_or order k 0) + sum_by (λ c. model_size library c + 1)
    (callees library (get_or order k 0)))
    → ((x : ℕ) → among (take k order) x ≡ true
    → IsTold (get_or sizes x None) (model_size library x))
    → (x : ℕ) → among (take (k + 1) order) x ≡ true
    → IsTold (get_or (set sizes (get_or order k 0) size) x None) (model_size library x)
sized_more library order k sizes size h inside each told known x e =
    elim (cases_eq x m) [
      | inl same ↦ rw same (rw (get_or-set_same sizes m size None room)
          (subst (IsTold size) (size_step library m ends) told))
      | inr other ↦ rw (get_or-set_other sizes m x size None other) (known x (before other))
    ]
  where
    m : ℕ
    m = get_or order k 0

    room : m < length sizes
    room = omega (
      arith,
      ltb-true m (length library + 1)
          (all_at (λ s. nat_lt s (length library + 1)) order k 0 h.within inside),
      each,
    )

    ends : ends_within (callees library) (suc (length library)) m ≡ true
    ends = ends_below (callees library) (length order) (suc (length library)) m
        (omega (arith, h.few)) (ordered_ends (callees library) order h.sorted m
        (among_at order k inside))

    before : (x ≡ m → ⊥) → among (take k order) x ≡ true
    before other = elim (among_push (take k order) m x (rw (take_more order k 0 inside) at e))
        [ inl there ↦ there | inr same ↦ absurd (other (sym same)) ]

-- the callees of a model stand before it
pub callees_before : (library : List ModelOf) (order : List ℕ) (k c : ℕ) → IsCallOrder library order
    → k < length order
    → among (callees library (get_or order k 0)) c ≡ true → among (take k order) c ≡ true
callees_before library order k c h inside e =
    elim (before_at (callees library) [] order k c h.sorted inside e) [
      | inl none ↦ absurd (true≢false (sym none))
      | inr w ↦ there w.0 w.1 w.2
    ]
  where
    there : (i : ℕ) → i < k → get_or order i 0 ≡ c → among (take k order) c ≡ true
    there i less is =
        let P : ℕ → Type 0 = λ x. among (take k order) x ≡ true in
        subst P (get_or-take k order i 0 less
        ∙ is) (among_at (take k order) i (omega (
          arith,
          less,
          inside,
          length-take-le k order
              (omega (arith, inside)),
        )))

-- a search from a model that never reaches itself ends, with all that it reaches in order
pub call_order : (library : List ModelOf) (top : ℕ) (stages : List Stage) (order : List ℕ)
    (ends : Bool)
    → (ends ≡ true → IsSearch (callees library) (length library + 1) stages [] order)
    → (ends ≡ true → among order top ≡ true)
    → (ends ≡ false → (steps : ℕ) → ends_within (callees library) steps top ≡ false)
    → is_recursive library top ≡ false
    → IsCallOrder library order × (among order top ≡ true)
call_order library top stages order true searching placed cyclic e =
    let h = searching refl in (
      record { sorted = h.sorted; within = h.order_within; few = omega (arith, h.counted) },
      placed refl,
    )
call_order library top stages order false searching placed cyclic e =
    absurd (true≢false (recursive_is library top stages order false searching placed cyclic ∙ e))

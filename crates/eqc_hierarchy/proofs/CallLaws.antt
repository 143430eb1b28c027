-- The calls of a library: numbers of models, and lists with an entry for each model and one for
-- none.
use Rattle.std.proofs.Common.{◌≡◌, ℕ, suc, zero, ◌+◌, ◌<◌, ◌≤◌, inl, inr, Bool, not, List, [], ◌∷◌}
use Rattle.std.proofs.Common.{◌++◌, length, get_or, map, refl, sym, ◌∙◌, ap, arith, position}
use Rattle.std.proofs.Common.{unwrap_or}
use Rattle.std.specs.List.{position_or_len, range_with_len}
use Rattle.std.specs.Str.{bytes_eq}
use Rattle.std.proofs.lemmas.Bool.{cases_lt, lt-ltb, le-ltb}
use Rattle.std.proofs.lemmas.List.{get_or_past, map-append, length-map}
use Rattle.std.proofs.lemmas.List.FromFn.{get_or-map-range_with_len, length-map-range_with_len}
use Rattle.std.proofs.lemmas.List.FromFn.{map-range_with_len_more}
use Rattle.std.proofs.lemmas.List.Sums.{prefix_len-le-length}
use Rattle.eqc_blif.specs.Netlist.{ModelOf, InstanceOf, no_model}
use Rattle.eqc_hierarchy.specs.Hierarchy.{model, model_number, callees}

-- a place that was found, or else the length
pub found_or_length : {X : Type 0} (p : X → Bool) (xs : List X)
    → unwrap_or (position p xs) (length xs) ≡ position_or_len p xs
found_or_length p xs = elim (cases_lt (position_or_len p xs) (length xs)) [
  | inl inside ↦ rw (lt-ltb (position_or_len p xs) (length xs) inside) refl
  | inr past ↦ rw (le-ltb (position_or_len p xs) (length xs) past)
      (omega (arith, prefix_len-le-length (λ x. not (p x)) xs))
]

-- the number of a model's name is at most the number of models
pub number_within : (library : List ModelOf) (name : List ℕ) → model_number library name
    < length library + 1
number_within library name =
    omega (arith, prefix_len-le-length (λ (m : ModelOf). not (bytes_eq name m.name)) library)

-- past the models there is none
pub no_such : (library : List ModelOf) (m : ℕ) → length library ≤ m → model library m ≡ no_model
no_such library m past = get_or_past library m no_model past

pub no_callees : (library : List ModelOf) → callees library (length library) ≡ []
unfolding callees
no_callees library = ap (λ (one : ModelOf). map (λ (i : InstanceOf). model_number library i.model)
    one.instances) (no_such library (length library) (omega arith))

-- an entry for each number up to n, read as it was made
pub entry_at : {X Y : Type 0} (f : X → Y) (g : ℕ → Y) (xs : List X) (n k : ℕ) (x : X)
    → map f xs ≡ map g (range_with_len 0 (n + 1)) → k < n + 1 → x ≡ get_or xs k x → f x ≡ g k
entry_at {X = X} f g xs n k x is inside read =
    let room : k < length xs = omega (
      arith,
      length-map xs f,
      ap length is,
      length-map-range_with_len g 0 (n + 1),
    ) in
    ap f read ∙ (mapped xs k room ∙ (ap (λ l. get_or l k (f x)) is
    ∙ get_or-map-range_with_len g 0 (n + 1) k k (f x) inside (omega arith)))
  where
    mapped : (xs : List X) (k : ℕ) → k < length xs → f (get_or xs k x) ≡ get_or (map f xs) k (f x)
    mapped [] k h = absurd (omega arith)
    mapped (y ∷ xs) zero h = refl
    mapped (y ∷ xs) (suc k) h = mapped xs k (omega arith)

pub entry_count : {X Y : Type 0} (f : X → Y) (g : ℕ → Y) (xs : List X) (n : ℕ)
    → map f xs ≡ map g (range_with_len 0 (n + 1)) → length xs ≡ n + 1
entry_count f g xs n is = omega (
  arith,
  length-map xs f,
  ap length is,
  length-map-range_with_len g 0
      (n + 1),
)

-- one entry more
pub entry_more : {X Y : Type 0} (f : X → Y) (g : ℕ → Y) (xs ys : List X) (k : ℕ) (x : X)
    → map f xs ≡ map g (range_with_len 0 k)
    → ys ≡ xs ++ x ∷ [] → f x ≡ g k → map f ys ≡ map g (range_with_len 0 (k + 1))
entry_more f g xs ys k x is grown made =
    ap (map f) grown ∙ (map-append f xs (x ∷ []) ∙ (ap (λ l. l ++ f x ∷ []) is
    ∙ (ap (λ y. map g (range_with_len 0 k) ++ y ∷ []) made
    ∙ sym (map-range_with_len_more g 0 k k (omega arith)))))

-- the last entry, for a model that isn't there
pub entry_last : {X Y : Type 0} (f : X → Y) (g : ℕ → Y) (xs ys : List X) (k n : ℕ) (x : X) → k ≡ n
    → map f xs ≡ map g (range_with_len 0 k) → ys ≡ xs ++ x ∷ [] → f x ≡ g n
    → map f ys ≡ map g (range_with_len 0 (n + 1))
entry_last f g xs ys k n x same is grown made = rw same at (entry_more f g xs ys k x is grown (made
    ∙ ap g (sym same)))

-- ---- the same for entries that are read as they are

pub made_more : {Y : Type 0} (g : ℕ → Y) (xs ys : List Y) (k : ℕ) (x : Y)
    → xs ≡ map g (range_with_len 0 k) → ys ≡ xs ++ x ∷ [] → x ≡ g k
    → ys ≡ map g (range_with_len 0 (k + 1))
made_more g xs ys k x is grown made =
    grown ∙ (ap (λ l. l ++ x ∷ []) is ∙ (ap (λ y. map g (range_with_len 0 k) ++ y ∷ []) made
    ∙ sym (map-range_with_len_more g 0 k k (omega arith))))

pub made_last : {Y : Type 0} (g : ℕ → Y) (xs ys : List Y) (k n : ℕ) (x : Y) → k ≡ n
    → xs ≡ map g (range_with_len 0 k) → ys ≡ xs ++ x ∷ [] → x ≡ g n
    → ys ≡ map g (range_with_len 0 (n + 1))
made_last g xs ys k n x same is grown made = rw same at (made_more g xs ys k x is grown (made
    ∙ ap g (sym same)))

pub made_count : {Y : Type 0} (g : ℕ → Y) (xs : List Y) (n : ℕ)
    → xs ≡ map g (range_with_len 0 (n + 1)) → length xs ≡ n + 1
made_count g xs n is = ap length is ∙ length-map-range_with_len g 0 (n + 1)

pub made_at : {Y : Type 0} (g : ℕ → Y) (xs : List Y) (n k : ℕ) (x : Y)
    → xs ≡ map g (range_with_len 0 (n + 1)) → k < n + 1 → x ≡ get_or xs k x → x ≡ g k
made_at g xs n k x is inside read = read ∙ (ap (λ l. get_or l k x) is
    ∙ get_or-map-range_with_len g 0 (n + 1) k k x inside (omega arith))

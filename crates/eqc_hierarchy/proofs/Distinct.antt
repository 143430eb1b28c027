-- Lists in which no element stands twice, and where the pieces of a flat list come from.
use Rattle.std.proofs.Common.{◌≡◌, ℕ, zero, suc, ◌+◌, ◌<◌, ◌≤◌, ◌⊎◌, inl, inr, List, [], ◌∷◌, ◌++◌}
use Rattle.std.proofs.Common.{length, map, get_or, refl, sym, ap, subst, arith}
use Rattle.std.specs.List.{flat_map, range_with_len}

-- whether an element stands in a list
abbrev pub Member : {X : Type 0} → X → List X → Type 0
Member y [] = ⊥
Member y (x ∷ xs) = (x ≡ y) ⊎ Member y xs

-- whether no element stands twice
abbrev pub Distinct : {X : Type 0} → List X → Type 0
Distinct [] = Unit {0}
Distinct (x ∷ xs) = (Member x xs → ⊥) × Distinct xs

pub member_append : {X : Type 0} (y : X) (xs ys : List X) → Member y (xs ++ ys) → Member y xs
    ⊎ Member y ys
member_append y [] ys h = inr h
member_append y (x ∷ xs) ys (inl h) = inl (inl h)
member_append y (x ∷ xs) ys (inr h) = elim (member_append y xs ys h) [
  | inl k ↦ inl (inr k)
  | inr k ↦
      inr k
]

pub member_left : {X : Type 0} (y : X) (xs ys : List X) → Member y xs → Member y (xs ++ ys)
member_left y [] ys h = absurd h
member_left y (x ∷ xs) ys (inl h) = inl h
member_left y (x ∷ xs) ys (inr h) = inr (member_left y xs ys h)

pub member_right : {X : Type 0} (y : X) (xs ys : List X) → Member y ys → Member y (xs ++ ys)
member_right y [] ys h = h
member_right y (x ∷ xs) ys h = inr (member_right y xs ys h)

pub member_map : {X Y : Type 0} (f : X → Y) (x : X) (xs : List X) → Member x xs
    → Member (f x) (map f xs)
member_map f x [] h = absurd h
member_map f x (z ∷ xs) (inl h) = inl (ap f h)
member_map f x (z ∷ xs) (inr h) = inr (member_map f x xs h)

-- what stands in a list of images is an image
pub member_of_map : {X Y : Type 0} (f : X → Y) (y : Y) (xs : List X) → Member y (map f xs) → (x : X)
    × Member x xs × (f x ≡ y)
member_of_map f y [] h = absurd h
member_of_map f y (x ∷ xs) (inl h) = (x, inl refl, h)
member_of_map f y (x ∷ xs) (inr h) = let (z, there, same) = member_of_map f y xs h in
    (z, inr there, same)

pub member_get : {X : Type 0} (xs : List X) (k : ℕ) (d : X) → k < length xs
    → Member (get_or xs k d) xs
member_get [] k d h = absurd (omega arith)
member_get (x ∷ xs) zero d h = inl refl
member_get (x ∷ xs) (suc k) d h = inr (member_get xs k d (omega arith))

-- a fact of all that the pieces hold is a fact of all that the flat list holds
pub all_pieces : {X Y : Type 0} (Q : Y → Type 0) (f : X → List Y) (xs : List X)
    → ((x : X) (y : Y) → Member x xs → Member y (f x) → Q y) → (y : Y) → Member y (flat_map f xs)
    → Q y
all_pieces Q f [] h y e = absurd e
all_pieces Q f (x ∷ xs) h y e = elim (member_append y (f x) (flat_map f xs) e) [
  | inl here ↦ h x y (inl refl) here
  | inr there ↦ all_pieces Q f xs (λ z w k. h z w (inr k)) y there
]

-- what stands in a piece stands in the flat list
pub member_piece : {X Y : Type 0} (f : X → List Y) (xs : List X) (x : X) (y : Y) → Member x xs
    → Member y (f x) → Member y (flat_map f xs)
member_piece f [] x y h e = absurd h
member_piece {X} {Y} f (z ∷ xs) x y (inl h) e = member_left y (f z) (flat_map f xs) (let P : X
    → Type 0 = λ w. Member y (f w) in subst P (sym h) e)
member_piece f (z ∷ xs) x y (inr h) e = member_right y (f z) (flat_map f xs) (member_piece f xs x y
    h e)

-- the origins of what stands in a flat list stand in the list that it is made of
pub origin_member : {X Y : Type 0} (o : Y → X) (f : X → List Y) (xs : List X)
    → ((x : X) (y : Y) → Member y (f x) → o y ≡ x) → (y : Y) → Member y (flat_map f xs)
    → Member (o y) xs
origin_member o f [] h y e = e
origin_member o f (x ∷ xs) h y e = elim (member_append y (f x) (flat_map f xs) e) [
  | inl here ↦ inl (sym (h x y here))
  | inr there ↦ inr (origin_member o f xs h y there)
]

pub distinct_append : {X : Type 0} (xs ys : List X) → Distinct xs → Distinct ys
    → ((y : X) → Member y xs → Member y ys → ⊥) → Distinct (xs ++ ys)
distinct_append [] ys h k apart = k
distinct_append (x ∷ xs) ys h k apart = (
  λ e. elim (member_append x xs ys e) [
    | inl a ↦
        h.0 a
    | inr b ↦ apart x (inl refl) b
  ],
  distinct_append xs ys h.1 k (λ y a b. apart y (inr a)
      b),
)

pub distinct_flat_map : {X Y : Type 0} (o : Y → X) (f : X → List Y) (xs : List X)
    → ((x : X) (y : Y) → Member y (f x) → o y ≡ x) → ((x : X) → Distinct (f x)) → Distinct xs
    → Distinct (flat_map f xs)
distinct_flat_map o f [] h each d = tt
distinct_flat_map {X} {Y} o f (x ∷ xs) h each d = distinct_append (f x) (flat_map f xs) (each x)
    (distinct_flat_map o f xs h each d.1) (λ y here there.
    let P : X → Type 0 = λ z. Member z xs in
    d.0 (subst P (h x y here) (origin_member o f xs h y there)))

pub distinct_map : {X Y : Type 0} (f : X → Y) (xs : List X) → ((x z : X) → f x ≡ f z → x ≡ z)
    → Distinct xs → Distinct (map f xs)
distinct_map f [] h d = tt
distinct_map {X} f (x ∷ xs) h d = (
  λ e. let (z, there, same) = member_of_map f (f x) xs e in
      let P : X → Type 0 = λ w. Member w xs in d.0 (subst P (h z x same) there),
  distinct_map f xs h d.1,
)

-- numbers in a range are not below its first
range_least : (a n y : ℕ) → Member y (range_with_len a n) → a ≤ y
range_least a zero y h = absurd h
range_least a (suc n) y (inl h) = omega (arith, h)
range_least a (suc n) y (inr h) = let k : a + 1 ≤ y = range_least (a + 1) n y h in omega (arith, k)

pub distinct_range : (a n : ℕ) → Distinct (range_with_len a n)
distinct_range a zero = tt
distinct_range a (suc n) = (
  λ e. let k : a + 1 ≤ a = range_least (a + 1) n a e in
      absurd (omega (arith, k)),
  distinct_range (a + 1) n,
)

-- where nothing stands twice, equal elements are at equal places
pub distinct_places : {X : Type 0} (xs : List X) (d : X) (i j : ℕ) → Distinct xs → i < length xs
    → j < length xs → get_or xs i d ≡ get_or xs j d → i ≡ j
distinct_places [] d i j h a b e = absurd (omega arith)
distinct_places (x ∷ xs) d zero zero h a b e = refl
distinct_places {X} (x ∷ xs) d zero (suc j) h a b e = let P : X → Type 0 = λ w. Member w xs in
    absurd (h.0 (subst P (sym e) (member_get xs j d (omega arith))))
distinct_places {X} (x ∷ xs) d (suc i) zero h a b e = let P : X → Type 0 = λ w. Member w xs in
    absurd (h.0 (subst P e (member_get xs i d (omega arith))))
distinct_places (x ∷ xs) d (suc i) (suc j) h a b e =
    ap suc (distinct_places xs d i j h.1 (omega arith) (omega arith) e)

-- where a member stands
pub member_place : {X : Type 0} (xs : List X) (x d : X) → Member x xs → (k : ℕ) × (k < length xs)
    × (get_or xs k d ≡ x)
member_place [] x d h = absurd h
member_place (y ∷ xs) x d (inl same) = (0, omega arith, same)
member_place (y ∷ xs) x d (inr there) = let (k, inside, is) = member_place xs x d there in
    (suc k, omega (arith, inside), is)

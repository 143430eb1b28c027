-- Graphs of finitely many elements: what doesn't end within as many steps as there are elements
-- comes to a circle, and
-- what comes to a circle never ends.
use Rattle.std.proofs.Common.{◌≡◌, ℕ, zero, suc, ◌<◌, ◌⊎◌, inl, inr, Bool, true, false, ◌&&◌, List}
use Rattle.std.proofs.Common.{[], ◌∷◌, length, get_or, refl, sym, ◌∙◌, ap, subst, arith}
use Rattle.std.specs.Prelude.{Contains}
use Rattle.std.specs.List.{list_all}
use Rattle.std.proofs.lemmas.Bool.{true≢false, and_parts}
use Rattle.eqc_flat.specs.HierarchyLaws.{Reaches, directly, through}
use Rattle.eqc_hierarchy.proofs.Distinct.{Member, Distinct, member_place}
use Rattle.eqc_flat.proofs.OrderLaws.{at_most}

-- the elements of a graph, what one step reaches from each, and whether all its chains end within
-- so many steps
pub record IsFinite {X : Type 0} (next : X → List X) (all : List X) (ends : ℕ → X → Bool) : Type 0
  where
    pub decided : (x y : X) → (x ≡ y) ⊎ (x ≡ y → ⊥)
    pub closed : (x y : X) → Member x all → Member y (next x) → Member y all
    pub none : (x : X) → ends zero x ≡ false
    pub more : (k : ℕ) (x : X) → Member x all → ends (suc k) x ≡ list_all (ends k) (next x)

member_at : {X : Type 0} (xs : List X) (x : X) (k : ℕ) → k < length xs → get_or xs k x ≡ x
    → Member x xs
member_at [] x k inside e = absurd (omega (arith, inside))
member_at (y ∷ xs) x zero inside e = inl e
member_at (y ∷ xs) x (suc k) inside e = inr (member_at xs x k (omega (arith, inside)) e)

contained : {X : Type 0} (xs : List X) (x : X) → Contains xs x → Member x xs
contained xs x h = member_at xs x h.0 h.1 h.2

contains : {X : Type 0} (xs : List X) (x : X) → Member x xs → Contains xs x
contains xs x h = member_place xs x x h

-- one step more
reaches_more : {X : Type 0} (next : X → List X) (a b c : X) → Reaches next a b → Contains (next b) c
    → Reaches next a c
reaches_more next _ _ c (directly a b h) k = through a b c h (directly b c k)
reaches_more next _ _ c (through a x b h r) k = through a x c h (reaches_more next x b c r k)

all_member : {X : Type 0} (p : X → Bool) (xs : List X) (x : X) → list_all p xs ≡ true → Member x xs
    → p x ≡ true
all_member p [] x e h = absurd h
all_member {X} p (z ∷ xs) x e (inl same) = let P : X → Type 0 = λ w. p w ≡ true in
    subst P same ((and_parts (p z) (list_all p xs) e).0)
all_member p (z ∷ xs) x e (inr there) = all_member p xs x ((and_parts (p z) (list_all p xs) e).1)
    there

-- what one step reaches ends one step earlier
ends_next : {X : Type 0} (next : X → List X) (all : List X) (ends : ℕ → X → Bool)
    → IsFinite next all ends → (k : ℕ) (x y : X)
    → Member x all → ends (suc k) x ≡ true → Member y (next x) → ends k y ≡ true
ends_next next all ends g k x y i e h = all_member (ends k) (next x) y (sym (g.more k x i) ∙ e) h

-- what ends does not reach itself
no_circle : {X : Type 0} (next : X → List X) (all : List X) (ends : ℕ → X → Bool)
    → IsFinite next all ends → (k : ℕ) (m n : X) → m ≡ n → Member m all → ends k m ≡ true
    → Reaches next m n → ⊥
no_circle next all ends g zero m n same i e r = true≢false (sym e ∙ g.none m)
no_circle {X} next all ends g (suc k) _ _ same i e (directly m n h) =
    let P : X → Type 0 = λ x. Contains (next x) n in
    let there : Member n (next m) = contained (next m) n h in
    no_circle next all ends g k n n refl (g.closed m n i there) (ends_next next all ends g k m n i e
    there) (directly n n (subst P same h))
no_circle {X} next all ends g (suc k) _ _ same i e (through m x n h r) =
    let P : X → Type 0 = λ y. Contains (next y) x in
    let there : Member x (next m) = contained (next m) x h in
    no_circle next all ends g k x x refl (g.closed m x i there) (ends_next next all ends g k m x i e
    there) (reaches_more next x n x r (subst P same h))

-- what is reached from an element that ends is of the graph, and ends
reached_ends : {X : Type 0} (next : X → List X) (all : List X) (ends : ℕ → X → Bool)
    → IsFinite next all ends → (k : ℕ) (a b : X)
    → Member a all → ends k a ≡ true → Reaches next a b → (j : ℕ) × Member b all × (ends j b ≡ true)
reached_ends next all ends g zero a b i e r = absurd (true≢false (sym e ∙ g.none a))
reached_ends next all ends g (suc k) _ _ i e (directly a b h) =
    let there : Member b (next a) = contained (next a) b h in
    (k, g.closed a b i there, ends_next next all ends g k a b i e there)
reached_ends next all ends g (suc k) _ _ i e (through a x b h r) =
    let there : Member x (next a) = contained (next a) x h in
    reached_ends next all ends g k x b (g.closed a x i there) (ends_next next all ends g k a x i e
    there) r

-- what is or reaches an element that reaches itself never ends
pub never_ends : {X : Type 0} (next : X → List X) (all : List X) (ends : ℕ → X → Bool)
    → IsFinite next all ends → (x y : X)
    → Member x all → (y ≡ x) ⊎ Reaches next x y → Reaches next y y → (k : ℕ) → ends k x ≡ true → ⊥
never_ends {X} next all ends g x y i (inl same) circle k e =
    let P : X → Type 0 = λ z. Member z all in
    no_circle next all ends g k y y refl (subst P (sym same) i) (ap (ends k) same ∙ e) circle
never_ends next all ends g x y i (inr there) circle k e =
    let (j, inside, ends_there) = reached_ends next all ends g k x y i e there in
    no_circle next all ends g j y y refl inside ends_there circle

-- a member of which a test is not true
some_false : {X : Type 0} (p : X → Bool) (xs : List X) → list_all p xs ≡ false → (t : X)
    × Member t xs × (p t ≡ false)
some_false p [] e = absurd (true≢false e)
some_false {X} p (x ∷ xs) e = by (p x) refl e (some_false p xs)
  where
    by : (b : Bool) → p x ≡ b → (b && list_all p xs) ≡ false → (list_all p xs ≡ false → (t : X)
        × Member t xs × (p t ≡ false)) → (t : X) × Member t (x ∷ xs) × (p t ≡ false)
    by true k h rest = let (t, there, is) = rest h in (t, inr there, is)
    by false k h rest = (x, inl refl, k)

-- elements of which each is one step from the one before it, and the first from x
abbrev IsChain : {X : Type 0} → (X → List X) → X → List X → Type 0
IsChain next x [] = Unit {0}
IsChain next x (y ∷ ys) = Member y (next x) × IsChain next y ys

chain_from : {X : Type 0} (next : X → List X) (all : List X) (ends : ℕ → X → Bool)
    → IsFinite next all ends → (k : ℕ) (x : X)
    → Member x all → ends k x ≡ false → (p : List X) × IsChain next x p × (length p ≡ k)
chain_from next all ends g zero x i e = ([], tt, refl)
chain_from next all ends g (suc k) x i e =
    let (t, there, is) = some_false (ends k) (next x) (sym (g.more k x i) ∙ e) in
    let (p, chain, size) = chain_from next all ends g k t (g.closed x t i there) is in
    (t ∷ p, (there, chain), ap suc size)

chain_within : {X : Type 0} (next : X → List X) (all : List X) (ends : ℕ → X → Bool)
    → IsFinite next all ends
    → (x : X) (p : List X) → IsChain next x p → Member x all → (y : X) → Member y (x ∷ p)
    → Member y all
chain_within {X} next all ends g x p c i y (inl same) = let P : X → Type 0 = λ z. Member z all in
    subst P same i
chain_within next all ends g x [] c i y (inr none) = absurd none
chain_within next all ends g x (t ∷ p) c i y (inr there) = chain_within next all ends g t p c.1
    (g.closed x t i c.0) y there

chain_reaches : {X : Type 0} (next : X → List X) (x : X) (p : List X) (y : X) → IsChain next x p
    → Member y p → Reaches next x y
chain_reaches next x [] y c m = absurd m
chain_reaches {X} next x (t ∷ p) y c (inl same) = let P : X → Type 0 = λ z. Reaches next x z in
    subst P same (directly x t (contains (next x) t c.0))
chain_reaches next x (t ∷ p) y c (inr there) = through x t y (contains (next x) t c.0)
    (chain_reaches next t p y c.1 there)

chain_begins : {X : Type 0} (next : X → List X) (x : X) (p : List X) (y : X) → IsChain next x p
    → Member y (x ∷ p) → (y ≡ x) ⊎ Reaches next x y
chain_begins next x p y c (inl same) = inl (sym same)
chain_begins next x p y c (inr there) = inr (chain_reaches next x p y c there)

-- some element stands twice
abbrev IsTwice : {X : Type 0} → List X → Type 0
IsTwice [] = ⊥
IsTwice (x ∷ xs) = Member x xs ⊎ IsTwice xs

member_or_not : {X : Type 0} (decided : (x y : X) → (x ≡ y) ⊎ (x ≡ y → ⊥)) (x : X) (xs : List X)
    → Member x xs ⊎ (Member x xs → ⊥)
member_or_not decided x [] = inr (λ m. m)
member_or_not decided x (y ∷ xs) = by (decided y x) (member_or_not decided x xs)
  where
    by : (y ≡ x) ⊎ (y ≡ x → ⊥) → Member x xs ⊎ (Member x xs → ⊥) → Member x (y ∷ xs)
        ⊎ (Member x (y ∷ xs) → ⊥)
    by (inl same) rest = inl (inl same)
    by (inr other) (inl there) = inl (inr there)
    by (inr other) (inr none) = inr (λ m. elim m [ inl same ↦ other same | inr there ↦ none there ])

twice_or_not : {X : Type 0} (decided : (x y : X) → (x ≡ y) ⊎ (x ≡ y → ⊥)) (xs : List X)
    → Distinct xs ⊎ IsTwice xs
twice_or_not decided [] = inl tt
twice_or_not decided (x ∷ xs) = by (member_or_not decided x xs) (twice_or_not decided xs)
  where
    by : Member x xs ⊎ (Member x xs → ⊥) → Distinct xs ⊎ IsTwice xs → Distinct (x ∷ xs)
        ⊎ IsTwice (x ∷ xs)
    by (inl again) rest = inr (inl again)
    by (inr once) (inl apart) = inl (once, apart)
    by (inr once) (inr more) = inr (inr more)

-- what stands twice in a chain reaches itself
chain_circle : {X : Type 0} (next : X → List X) (x : X) (p : List X) → IsChain next x p
    → IsTwice (x ∷ p) → (y : X) × Member y (x ∷ p) × Reaches next y y
chain_circle next x p c (inl again) = (x, inl refl, chain_reaches next x p x c again)
chain_circle next x [] c (inr none) = absurd none
chain_circle next x (t ∷ p) c (inr more) = let (y, there, circle) = chain_circle next t p c.1 more
    in (y, inr there, circle)

-- an element that doesn't end within as many steps as there are elements is or reaches one that
-- reaches itself: of the
-- elements of so long a chain one stands twice
pub circle_found : {X : Type 0} (next : X → List X) (all : List X) (ends : ℕ → X → Bool)
    → IsFinite next all ends → (x : X)
    → Member x all → ends (length all) x ≡ false → (y : X) × Member y all
    × ((y ≡ x) ⊎ Reaches next x y) × Reaches next y y
circle_found next all ends g x i e =
    let (p, chain, size) = chain_from next all ends g (length all) x i e in
    elim (twice_or_not g.decided (x ∷ p)) [
      | inl apart ↦ (let most = at_most (x ∷ p) all apart (chain_within next all ends g x p chain i)
          in absurd (omega (arith, most, size)))
      | inr twice ↦ (let (y, there, circle) = chain_circle next x p chain twice in (
        y,
        chain_within next all ends g x p chain i y there,
        chain_begins next x p y chain there,
        circle,
      ))
    ]

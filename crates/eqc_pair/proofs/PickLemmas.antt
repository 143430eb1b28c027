-- Values at places.
use Rattle.std.proofs.Common.{◌≡◌, ℕ, ◌+◌, ◌<◌, ◌≤◌, List, [], ◌∷◌, ◌++◌, map, length, get_or, take}
use Rattle.std.proofs.Common.{sym, ap, ◌∙◌}
use Rattle.std.proofs.lemmas.List.{take_more, map-append, get_or_default, take_all}

-- one more value
pub picked_more : {X : Type 0} (values : List X) (places : List ℕ) (i : ℕ) (d x : X)
    (all more : List X) → i < length places →
    get_or places i 0 < length values → x ≡ get_or values (get_or places i 0) x
    → all ≡ map (λ place. get_or values place d) (take i places) → more ≡ all ++ x ∷ []
    → more ≡ map (λ place. get_or values place d) (take (i + 1) places)
picked_more values places i d x all more inside below at is grown =
    grown ∙ (ap (λ l. l ++ x ∷ []) is
    ∙ (ap (λ y. map (λ place. get_or values place d) (take i places) ++ y ∷ []) (at
    ∙ get_or_default values (get_or places i 0) x d below)
    ∙ sym (ap (map (λ place. get_or values place d)) (take_more places i 0 inside)
    ∙ map-append (λ place. get_or values place d) (take i places) (get_or places i 0 ∷ []))))

-- all of them
pub picked_all : {X : Type 0} (values : List X) (places : List ℕ) (i : ℕ) (d : X) (all : List X)
    → length places ≤ i →
    all ≡ map (λ place. get_or values place d) (take i places)
    → all ≡ map (λ place. get_or values place d) places
picked_all values places i d all whole is = is ∙ ap (map (λ place. get_or values place d))
    (take_all i places whole)

-- one more number of a list
pub taken_more : (xs : List ℕ) (i : ℕ) (old new : List ℕ) → i < length xs → old ≡ take i xs
    → new ≡ old ++ get_or xs i 0 ∷ [] → new ≡ take (i + 1) xs
taken_more xs i old new inside o n = n ∙ (ap (λ l. l ++ get_or xs i 0 ∷ []) o
    ∙ sym (take_more xs i 0 inside))

-- A list that grows by one for each item of another.
use Rattle.std.proofs.Common.{◌≡◌, ℕ, ◌+◌, ◌<◌, List, [], ◌∷◌, ◌++◌, length, map, take, get_or, sym}
use Rattle.std.proofs.Common.{ap, ◌∙◌}
use Rattle.std.proofs.lemmas.List.{append_assoc, take_more, map_push}

pub mapped_more : {A B : Type 0} (f : A → B) (xs : List A) (before old new : List B) (i : ℕ) (x : A)
    (y : B)
    → old ≡ before ++ map f (take i xs) → new ≡ old ++ y ∷ [] → y ≡ f x → x ≡ get_or xs i x
    → i < length xs
    → new ≡ before ++ map f (take (i + 1) xs)
mapped_more {A} {B} f xs before old new i x y so_far pushed made here inside =
    let one : take (i + 1) xs ≡ take i xs ++ x ∷ [] = take_more xs i x inside
    ∙ ap (λ (z : A). take i xs ++ z ∷ []) (sym here) in
    pushed
    ∙ ((λ j. so_far j ++ made j ∷ [])
    ∙ (append_assoc before (map f (take i xs)) (f x ∷ [])
    ∙ ap (λ (l : List B). before ++ l) (sym (ap (map f) one ∙ map_push f (take i xs) x))))

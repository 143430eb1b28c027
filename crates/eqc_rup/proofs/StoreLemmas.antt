-- How the places of a store change.
use Rattle.std.proofs.Common.{◌≡◌, ℕ, ◌<◌, List, [], length, map, sym, ◌∙◌, ap, subst, arith}
use Rattle.std.proofs.lemmas.List.{get_or-set_same, get_or-set_other, length-map, map-set}
use Rattle.std.proofs.Math.ListN.{set}
use Rattle.eqc_rup.specs.Clauses.{clause_of, Puts, GivesUp}

-- a free place is written
pub put_at : (old : List (List ℕ)) (number : ℕ) (c : List ℕ) → number < length old
    → clause_of old number ≡ [] → Puts old (set old number c) number c
put_at old number c inside free = record {
  free = free;
  put = get_or-set_same old number c [] inside;
  others = λ k other. get_or-set_other old number k c [] other;
}

-- a place is emptied
pub give_up_at : (old : List (List ℕ)) (number : ℕ) → number < length old
    → GivesUp old (set old number []) number
give_up_at old number inside = record {
  gone = get_or-set_same old number [] [] inside;
  others = λ k other. get_or-set_other old number k [] [] other;
}

-- the same where places are seen through a function
pub put_at_seen :
    {X : Type 0} (f : X → List ℕ) (xs : List X) (old : List (List ℕ)) (number : ℕ) (x : X)
    (c : List ℕ) →
    map f xs ≡ old → number < length xs → clause_of (map f xs) number ≡ [] → f x ≡ c
    → Puts old (map f (set xs number x)) number c
put_at_seen f xs old number x c same inside free is =
    let there : number < length (map f xs) = omega (arith, inside, length-map xs f) in
    let written : set (map f xs) number c ≡ map f (set xs number x) =
    ap (set (map f xs) number) (sym is) ∙ sym (map-set f xs number x) in
    subst (λ (now : List (List ℕ)). Puts old now number c) written
    (subst (λ (before : List (List ℕ)). Puts before (set (map f xs) number c) number c) same
    (put_at (map f xs) number c there free))

pub give_up_at_seen :
    {X : Type 0} (f : X → List ℕ) (xs : List X) (old : List (List ℕ)) (number : ℕ) (x : X) →
    map f xs ≡ old → number < length xs → f x ≡ [] → GivesUp old (map f (set xs number x)) number
give_up_at_seen f xs old number x same inside is =
    let there : number < length (map f xs) = omega (arith, inside, length-map xs f) in
    let written : set (map f xs) number [] ≡ map f (set xs number x) =
    ap (set (map f xs) number) (sym is) ∙ sym (map-set f xs number x) in
    subst (λ (now : List (List ℕ)). GivesUp old now number) written
    (subst (λ (before : List (List ℕ)). GivesUp before (set (map f xs) number []) number) same
    (give_up_at (map f xs) number there))

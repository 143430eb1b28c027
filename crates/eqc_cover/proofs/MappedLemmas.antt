-- Lists that grow by one element in a loop, beside what was gone over.
use Rattle.std.proofs.Common.{◌≡◌, ℕ, zero, suc, ◌+◌, ◌<◌, ◌≤◌, List, [], ◌∷◌, ◌++◌, length, map}
use Rattle.std.proofs.Common.{take, get_or, Option, None, refl, sym, ◌∙◌, ap}
use Rattle.std.proofs.lemmas.List.{map-append, take_more, take_all}

module _ {A B : Type 0} (f : A → B) (xs : List A) (ys : List B) (k : ℕ) where
  -- one more of the values
  pub taken_more : (new : List A) (x : A) (d : B) → k < length ys → map f xs ≡ take k ys
      → new ≡ xs ++ x ∷ [] → f x ≡ get_or ys k d → map f new ≡ take (k + 1) ys
  taken_more new x d inside same grown one =
      ap (map f) grown ∙ (map-append f xs (x ∷ []) ∙ (ap (λ l. l ++ f x ∷ []) same
      ∙ (ap (λ z. take k ys ++ z ∷ []) one ∙ sym (take_more ys k d inside))))

  -- all of them
  pub taken_all : length ys ≤ k → map f xs ≡ take k ys → map f xs ≡ ys
  taken_all whole same = same ∙ take_all k ys whole

-- one more element that is none
pub none_more : {X : Type 0} (xs : List (Option X)) → ((s : ℕ) → get_or xs s None ≡ None) → (s : ℕ)
    → get_or (xs ++ None ∷ []) s None ≡ None
none_more [] none zero = refl
none_more [] none (suc s) = refl
none_more (x ∷ xs) none zero = none 0
none_more (x ∷ xs) none (suc s) = none_more xs (λ t. none (suc t)) s

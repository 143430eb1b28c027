-- What is told of the first outputs, with one more.
use Rattle.std.proofs.Common.{◌≡◌, ◌⊎◌, ℕ, List, [], ◌∷◌, ◌++◌, sym, subst, inl, inr}
use Rattle.std.specs.List.{All}
use Rattle.std.proofs.lemmas.List.Elements.{All-push}

-- names among which one more stands, or which stayed
pub names-added : (P : List ℕ → Type 0) (names more : List (List ℕ)) (name : List ℕ)
    → (more ≡ names) ⊎ (more ≡ names ++ name ∷ []) → P name → All P names → All P more
names-added P names more name (inl e) h all = subst (All P) (sym e) all
names-added P names more name (inr e) h all = subst (All P) (sym e) (All-push P names name all h)

-- Signals by their distances from a first one.
use Rattle.std.proofs.Common.{◌≡◌, ℕ, ◌+◌, List, [], ◌∷◌, map, refl, arith}

-- distances from the signal 0 are signals
pub from_zero : (n : ℕ) (xs : List ℕ) → n ≡ 0 → map (λ d. n + d) xs ≡ xs
from_zero n [] e = refl
from_zero n (x ∷ xs) e =
    let here : n + x ≡ x = omega (arith, e) in
    let others = from_zero n xs e in
    cc

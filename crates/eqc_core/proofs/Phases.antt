-- Lists of phases, one for each announcement word.
use Rattle.std.proofs.Common.{◌≡◌, ℕ, zero, suc, ◌+◌, List, [], ◌∷◌, ◌++◌, length, refl, ap, ◌∙◌}
use Rattle.std.proofs.Common.{arith}
use Rattle.eqc_core.specs.declared.phase.Phase.{Phase}
use Rattle.eqc_core.specs.declared.phase.Phase.TheVariants.{Idle}
use Rattle.eqc_core.specs.View.{idle}

idle-end : (n : ℕ) → idle (suc n) ≡ idle n ++ Idle ∷ []
idle-end zero = refl
idle-end (suc n) = ap (λ (l : List Phase). Idle ∷ l) (idle-end n)

pub idle-push : (n : ℕ) → idle (n + 1) ≡ idle n ++ Idle ∷ []
idle-push n = ap idle (let e : n + 1 ≡ suc n = omega arith in e) ∙ idle-end n

pub idle-length : (n : ℕ) → length (idle n) ≡ n
idle-length zero = refl
idle-length (suc n) = ap suc (idle-length n)

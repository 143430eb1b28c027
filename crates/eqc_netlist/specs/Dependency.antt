-- Numbers that depend on others: orders of them, and chains that end.
use Rattle.std.specs.Prelude.{ℕ, zero, suc, Bool, true, false, ◌||◌, ◌&&◌, List, [], ◌∷◌, ◌==◌}
use Rattle.std.specs.List.{list_all}

-- whether a number is in a list
abbrev pub among : List ℕ → ℕ → Bool
among [] x = false
among (y ∷ ys) x = (y == x) || among ys x

-- whether each signal stands after all that it depends on, those of `done` standing before
abbrev pub in_order : (ℕ → List ℕ) → List ℕ → List ℕ → Bool
in_order deps done [] = true
in_order deps done (s ∷ ss) = list_all (among done) (deps s) && in_order deps (s ∷ done) ss

-- whether all that a signal depends on, that depends on, and so on, ends within so many steps
abbrev pub ends_within : (ℕ → List ℕ) → ℕ → ℕ → Bool
ends_within deps zero s = false
ends_within deps (suc steps) s = list_all (ends_within deps steps) (deps s)

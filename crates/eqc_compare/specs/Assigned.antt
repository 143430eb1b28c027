-- On which variables a function of assignments depends.
use Rattle.std.specs.Prelude.{◌≡◌, ℕ, ◌<◌, Bool}

-- it depends on no variable from n upwards
abbrev pub DependsBelow : ℕ → ((ℕ → Bool) → Bool) → Type 0
DependsBelow n f = (a b : ℕ → Bool) → ((v : ℕ) → v < n → a v ≡ b v) → f a ≡ f b

-- What is known of literals that stand in a list.
use Rattle.std.specs.Prelude.{◌≡◌, ℕ, Bool, true, List}
use Rattle.std.specs.List.{list_any}

-- the literal is among these: each test that it passes finds one
pub record IsAmong (l : ℕ) (literals : List ℕ) : Type 0 where
  pub found : (test : ℕ → Bool) → test l ≡ true → list_any test literals ≡ true

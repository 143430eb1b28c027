-- What is found of the lists of n values that begin with some and pass a test.
use Rattle.std.specs.Prelude.{◌≡◌, ℕ, Bool, true, false, List, ◌++◌, length, take, ⊤}
use Rattle.eqc_witness.specs.declared.completion.Completion.{Completion}
use Rattle.eqc_witness.specs.declared.completion.Completion.TheVariants.{Found, Nothing, Unknown}

-- one of them
pub record Completes (n : ℕ) (test : List Bool → Bool) (first values : List Bool) : Type 0 where
  pub long : length values ≡ n
  pub begins : take (length first) values ≡ first
  pub passes : test values ≡ true

-- one of them, or that there is none
abbrev pub IsCompletion : ℕ → (List Bool → Bool) → List Bool → Completion → Type 0
IsCompletion n test first (Found values) = Completes n test first values.items
IsCompletion n test first Nothing = (rest : List Bool) → length (first ++ rest) ≡ n
    → test (first ++ rest) ≡ false
IsCompletion n test first Unknown = ⊤

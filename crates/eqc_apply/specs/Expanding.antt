-- For proofs alone: an expansion at the top variable (Bryant 1986, section 4.3). No public promise
-- cites it.
use Rattle.std.specs.Prelude.{◌≡◌, ℕ, ◌<◌, min}
use Rattle.eqc_plain.specs.Meaning.{Meaning}
use Rattle.eqc_plain.specs.Combining.{AreHalves}

-- v is the top variable of f and g, whose cofactors are f0 and f1, g0 and g1; numbers meant m
-- before, and mean n
pub record Expands (m n : Meaning) (f g v f0 f1 g0 g1 : ℕ) : Type 0 where
  pub top : v ≡ min (m.root f) (m.root g)
  pub below : v < m.variables
  pub cofactors_f : AreHalves n v f f0 f1
  pub cofactors_g : AreHalves n v g g0 g1

-- For proofs alone: that a number is an operation's result, and Shannon's expansion at the top
-- variable (Bryant 1986, section 4.3). No public promise cites it.
use Rattle.std.specs.Prelude.{◌≡◌, ℕ, ◌<◌, ◌≤◌, Bool, if◌then◌else◌}
use Rattle.eqc_tree.specs.Operation.{operate}
use Rattle.eqc_tree.specs.declared.operation.Op.{Op}
use Rattle.eqc_plain.specs.Meaning.{Meaning}

-- x has the operation's function on those of f and g, and starts no higher than both
pub record IsResult (m : Meaning) (op : Op) (f g x : ℕ) : Type 0 where
  pub first : m.there f
  pub second : m.there g
  pub within : m.there x
  pub above : (v : ℕ) → v < m.variables → v < m.root f → v < m.root g → v < m.root x
  pub function : (a : ℕ → Bool) → m.says x a ≡ operate op (m.says f a) (m.says g a)

-- x is low where v is 0 and high where v is 1, and both start below v
pub record AreHalves (m : Meaning) (v x low high : ℕ) : Type 0 where
  pub low_within : m.there low
  pub high_within : m.there high
  pub above_low : v < m.root low
  pub above_high : v < m.root high
  pub function : (a : ℕ → Bool) → m.says x a ≡ (if a v then m.says high a else m.says low a)

-- x is low where v is 0 and high where v is 1, and starts no higher than v
pub record IsWhole (m : Meaning) (v low high x : ℕ) : Type 0 where
  pub within : m.there x
  pub root_at : v ≤ m.root x
  pub function : (a : ℕ → Bool) → m.says x a ≡ (if a v then m.says high a else m.says low a)

-- v is the top variable of f and g, whose cofactors are f0 and f1, g0 and g1
pub record IsExpansion (m : Meaning) (v f g f0 f1 g0 g1 : ℕ) : Type 0 where
  pub first : m.there f
  pub second : m.there g
  pub below : v < m.variables
  pub cofactors_f : AreHalves m v f f0 f1
  pub cofactors_g : AreHalves m v g g0 g1
  pub top : (w : ℕ) → w < m.root f → w < m.root g → w < v

-- low and high are the results of the operation on both pairs of cofactors at v, the top variable
-- of f and g
pub record HasBoth (m : Meaning) (op : Op) (f g v low high : ℕ) : Type 0 where
  pub f0 : ℕ
  pub f1 : ℕ
  pub g0 : ℕ
  pub g1 : ℕ
  pub expansion : IsExpansion m v f g f0 f1 g0 g1
  pub low_right : IsResult m op f0 g0 low
  pub high_right : IsResult m op f1 g1 high

-- The results that need no node (Bryant 1986, section 4.3: an operation on terminal vertices).
use Rattle.std.specs.Prelude.{◌≡◌, ℕ, ◌<◌, Bool, true, false, ◌⊎◌}
use Rattle.eqc_tree.specs.Operation.{operate}
use Rattle.eqc_tree.specs.declared.operation.Op.{Op}

-- x is an operand or a constant, and right whatever the operands say
pub record Decides (op : Op) (f g x : ℕ) : Type 0 where
  pub among : (x ≡ f) ⊎ ((x ≡ g) ⊎ (x < 2))
  pub right : (says : ℕ → Bool) → says 0 ≡ false → says 1 ≡ true
      → says x ≡ operate op (says f) (says g)

-- p and q are f and g, or the other way round for an operation that commutes
abbrev pub AreOperands : Op → (f g p q : ℕ) → Type 0
AreOperands op f g p q = ((p ≡ f) × (q ≡ g))
    ⊎ ((p ≡ g) × (q ≡ f) × ((a b : Bool) → operate op a b ≡ operate op b a))

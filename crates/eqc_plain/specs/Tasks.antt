-- For proofs alone: what the stack of tasks of an apply has done and still owes. No public promise
-- cites it.
use Rattle.std.specs.Prelude.{◌≡◌, ℕ, ◌+◌, ◌-◌, ◌^◌, ◌<◌, ◌≤◌, List, [], ◌∷◌, min, sum_by}
use Rattle.eqc_tree.specs.declared.operation.Op.{Op}
use Rattle.eqc_plain.specs.Meaning.{Meaning}
use Rattle.eqc_plain.specs.Combining.{IsResult, IsExpansion}
use Rattle.eqc_plain.specs.declared.task.Task.{Task}
use Rattle.eqc_plain.specs.declared.task.Task.TheVariants.{Low, High}
use Rattle.eqc_plain.specs.declared.task.Turn.{Turn}
use Rattle.eqc_plain.specs.declared.task.Turn.TheVariants.{Done, Next}

-- the cofactors of a task whose low ones are under way
pub record HasExpansion (m : Meaning) (p q v p1 q1 : ℕ) : Type 0 where
  pub p0 : ℕ
  pub q0 : ℕ
  pub expansion : IsExpansion m v p q p0 p1 q0 q1

-- the cofactors of a task whose high ones are under way, with the low result
pub record HasLow (m : Meaning) (op : Op) (p q v low : ℕ) : Type 0 where
  pub p0 : ℕ
  pub p1 : ℕ
  pub q0 : ℕ
  pub q1 : ℕ
  pub expansion : IsExpansion m v p q p0 p1 q0 q1
  pub right : IsResult m op p0 q0 low

-- the tasks lead from the operation on F and G, at the bottom, to that on f and g, which is next
abbrev pub Leads : Meaning → Op → List Task → (F G f g : ℕ) → Type 0
Leads m op [] F G f g = (F ≡ f) × (G ≡ g)
Leads m op (Low p q v p1 q1 ∷ ts) F G f g = (F ≡ p) × (G ≡ q) × ((h : HasExpansion m p q v p1 q1)
    × Leads m op ts h.p0 h.q0 f g)
Leads m op (High p q v low ∷ ts) F G f g = (F ≡ p) × (G ≡ q) × ((h : HasLow m op p q v low)
    × Leads m op ts h.p1 h.q1 f g)

-- the tasks lead to an operation whose result is x
pub record LeadsTo (m : Meaning) (op : Op) (ts : List Task) (F G x : ℕ) : Type 0 where
  pub f : ℕ
  pub g : ℕ
  pub leads : Leads m op ts F G f g
  pub right : IsResult m op f g x

-- a bound on the operations that a task has yet to start: its high cofactors make a full tree of
-- the variables below
abbrev pub owed : ℕ → Task → ℕ
owed variables (Low p q v p1 q1) = 2 ^ (variables - v) - 1
owed variables (High p q v low) = 0

-- the same for all tasks
abbrev pub owed_all : ℕ → List Task → ℕ
owed_all variables ts = sum_by (owed variables) ts

-- a bound on the operations that one on f and g starts: a full tree of the variables from its top
-- one
abbrev pub work : Meaning → ℕ → ℕ → ℕ
work m f g = 2 ^ (m.variables - min (m.root f) (m.root g) + 1)

-- under us, p and q come next in place of f and g under ts; numbers meant m before, and mean n
pub record StepsTo (m n : Meaning) (ts us : List Task) (f g p q : ℕ) : Type 0 where
  pub first : n.there p
  pub second : n.there q
  pub leads : (op : Op) (F G : ℕ) → Leads m op ts F G f g → Leads n op us F G p q
  pub less : owed_all n.variables us + work n p q < owed_all m.variables ts + work m f g

-- under us, p and q come next after a result, with no more owed than before
pub record ComesNext (m : Meaning) (op : Op) (ts us : List Task) (F G p q : ℕ) : Type 0 where
  pub first : m.there p
  pub second : m.there q
  pub leads : Leads m op us F G p q
  pub less : owed_all m.variables us + work m p q ≤ owed_all m.variables ts + 1

-- what comes after a result
abbrev pub TurnsTo : Meaning → Op → (ts us : List Task) → (F G : ℕ) → Turn → Type 0
TurnsTo m op ts us F G (Done x) = IsResult m op F G x
TurnsTo m op ts us F G (Next p q) = ComesNext m op ts us F G p q

-- For proofs alone: a turn of the loop that applies an operation. No public promise cites it.
use Rattle.std.specs.Prelude.{ℕ, ◌+◌, ◌<◌, List}
use Rattle.eqc_tree.specs.declared.operation.Op.{Op}
use Rattle.eqc_plain.specs.Meaning.{Meaning}
use Rattle.eqc_plain.specs.Combining.{IsResult}
use Rattle.eqc_plain.specs.Tasks.{Leads, owed_all, work}
use Rattle.eqc_plain.specs.declared.task.Task.{Task}
use Rattle.eqc_plain.specs.declared.task.Turn.{Turn}
use Rattle.eqc_plain.specs.declared.task.Turn.TheVariants.{Done, Next}

-- under us, p and q come next on the way from F and G, in place of f and g under ts; numbers meant
-- m before, and mean n
pub record GoesOn (m n : Meaning) (op : Op) (ts us : List Task) (F G f g p q : ℕ) : Type 0 where
  pub first : n.there p
  pub second : n.there q
  pub leads : Leads n op us F G p q
  pub less : owed_all n.variables us + work n p q < owed_all m.variables ts + work m f g

-- what comes of f and g under ts
abbrev pub ComesTo : (m n : Meaning) → Op → (ts us : List Task) → (F G f g : ℕ) → Turn → Type 0
ComesTo m n op ts us F G f g (Done x) = IsResult n op F G x
ComesTo m n op ts us F G f g (Next p q) = GoesOn m n op ts us F G f g p q

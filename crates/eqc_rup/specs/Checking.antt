-- What the check knows of the literals that it takes to be false, and of what is left of a clause
-- without them.
use Rattle.std.specs.Prelude.{◌≡◌, ℕ, ◌==◌, Bool, true, false, not, List, ◌∷◌, ⊤, slice_index_or}
use Rattle.std.specs.List.{list_any}
use Rattle.eqc_xag.specs.declared.node.Node.{Node}
use Rattle.eqc_xag.specs.Graph.{literal_value, node_value}
use Rattle.eqc_rup.specs.Clauses.{clause_value}
use Rattle.eqc_rup.specs.declared.left.Left.{Left}
use Rattle.eqc_rup.specs.declared.left.Left.TheVariants.{Nothing, One, More}

-- whether a literal is one of these
abbrev pub has : List ℕ → ℕ → Bool
has c l = list_any (λ m. m == l) c

-- only these literals are marked
pub record AreMarked (marks : List Bool) (literals : List ℕ) : Type 0 where
  pub only : (l : ℕ) → slice_index_or marks l false ≡ true → has literals l ≡ true

-- wherever one of the first literals is true, one of the others is
pub record Implies (c d : List ℕ) : Type 0 where
  pub implies : (nodes : List Node) (a : ℕ → Bool) → clause_value nodes a c ≡ true
      → clause_value nodes a d ≡ true

-- the same in one graph
pub record LeadsTo (nodes : List Node) (c d : List ℕ) : Type 0 where
  pub leads : (a : ℕ → Bool) → clause_value nodes a c ≡ true → clause_value nodes a d ≡ true

-- the first literals are complements of the others: one of them is true just where one of the
-- others is false
pub record AreComplements (c d : List ℕ) : Type 0 where
  pub value : (nodes : List Node) (a : ℕ → Bool) → clause_value nodes a c
      ≡ list_any (λ l. not (literal_value nodes a l)) d

-- wherever the clause is true, one of those literals is that are taken to be false, or the one that
-- is left
abbrev pub IsLeft : List ℕ → List ℕ → Left → Type 0
IsLeft clause falsified Nothing = Implies clause falsified
IsLeft clause falsified (One l) = Implies clause (l ∷ falsified)
IsLeft clause falsified More = ⊤

-- what is left of a clause that is true
abbrev pub IsLeftUnder : List Node → (ℕ → Bool) → List ℕ → Left → Type 0
IsLeftUnder nodes a falsified Nothing = clause_value nodes a falsified ≡ true
IsLeftUnder nodes a falsified (One l) = clause_value nodes a (l ∷ falsified) ≡ true
IsLeftUnder nodes a falsified More = ⊤

-- the same whatever the values of the variables
pub record IsLeftOf (nodes : List Node) (falsified : List ℕ) (left : Left) : Type 0 where
  pub under : (a : ℕ → Bool) → IsLeftUnder nodes a falsified left

-- the same of a clause of a node whose literal is n, wherever n has that node's value
pub record IsLeftOfGate (n : ℕ) (node : Node) (falsified : List ℕ) (left : Left) : Type 0 where
  pub under : (nodes : List Node) (a : ℕ → Bool) → literal_value nodes a n
      ≡ node_value a (literal_value nodes a) node → IsLeftUnder nodes a falsified left

-- What clauses say of a graph. A clause is a list of literals, and is true where one of them is.
use Rattle.std.specs.Prelude.{◌≡◌, ◌≢◌, ℕ, ◌<◌, Bool, true, not, List, [], ◌∷◌, length, ⊤}
use Rattle.std.specs.Prelude.{slice_index_or}
use Rattle.std.specs.List.{list_any}
use Rattle.eqc_xag.specs.declared.node.Node.{Node}
use Rattle.eqc_xag.specs.Graph.{literal_value, IsWithin}

abbrev pub clause_value : List Node → (ℕ → Bool) → List ℕ → Bool
clause_value nodes a c = list_any (literal_value nodes a) c

-- the clause is true, whatever the values of the variables
pub record IsTrueOf (nodes : List Node) (c : List ℕ) : Type 0 where
  pub holds : (a : ℕ → Bool) → clause_value nodes a c ≡ true

-- the literals of a clause are of nodes of the graph
pub record AreWithin (nodes : List Node) (c : List ℕ) : Type 0 where
  pub within : (i : ℕ) → i < length c → IsWithin nodes (slice_index_or c i 0)

-- what a place of a store says: nothing where it is empty, since its clause was given up
abbrev pub IsKept : List Node → List ℕ → Type 0
IsKept nodes [] = ⊤
IsKept nodes (l ∷ c) = IsTrueOf nodes (l ∷ c)

-- the clause with this number, and none where there is none
abbrev pub clause_of : List (List ℕ) → ℕ → List ℕ
clause_of clauses k = slice_index_or clauses k []

-- each clause of a store is true of the graph, and has literals of its nodes
pub record IsSound (nodes : List Node) (clauses : List (List ℕ)) : Type 0 where
  pub kept : (k : ℕ) → IsKept nodes (clause_of clauses k)
  pub within : (k : ℕ) → AreWithin nodes (clause_of clauses k)

-- a clause has come in under a number that was free, and the others are as they were
pub record Puts (old new : List (List ℕ)) (number : ℕ) (c : List ℕ) : Type 0 where
  pub free : clause_of old number ≡ []
  pub put : clause_of new number ≡ c
  pub others : (k : ℕ) → k ≢ number → clause_of new k ≡ clause_of old k

-- the clause with this number is gone, and the others are as they were
pub record GivesUp (old new : List (List ℕ)) (number : ℕ) : Type 0 where
  pub gone : clause_of new number ≡ []
  pub others : (k : ℕ) → k ≢ number → clause_of new k ≡ clause_of old k

-- whatever the values of the variables, one of these literals is false
pub record IsRefuted (nodes : List Node) (assumptions : List ℕ) : Type 0 where
  pub one_is_false : (a : ℕ → Bool) → list_any (λ l. not (literal_value nodes a l)) assumptions
      ≡ true

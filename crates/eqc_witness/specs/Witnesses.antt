-- What is found of a literal: the least assignment of some variables under which it is true.
use Rattle.std.specs.Prelude.{◌≡◌, ℕ, ◌<◌, Bool, true, List, length, find, Some, None, IfSome, ⊤}
use Rattle.eqc_tree.specs.Assigned.{assigned, assignments}
use Rattle.eqc_xag.specs.declared.node.Node.{Node}
use Rattle.eqc_xag.specs.Graph.{literal_value}
use Rattle.eqc_witness.specs.declared.witness.Witness.{Witness}
use Rattle.eqc_witness.specs.declared.witness.Witness.TheVariants.{Least, Never, Unknown}

-- the first list of n values, in lexicographic order with false before true, that passes a test is
-- found; or that there
-- is none; or any that passes, if one was seen
abbrev pub IsFoundOf : ℕ → (List Bool → Bool) → Witness → Type 0
IsFoundOf n test (Least values) = find test (assignments n) ≡ Some values.items
IsFoundOf n test Never = find test (assignments n) ≡ None
IsFoundOf n test (Unknown seen) = IfSome seen (λ values. (length values.items ≡ n)
    × (test values.items ≡ true))

-- whether a literal is true where these variables have these values, and each other one is false
abbrev pub is_true_under : List Node → ℕ → List ℕ → List Bool → Bool
is_true_under nodes l variables values = literal_value nodes (assigned variables values) l

-- what is found of the assignments under which it is
abbrev pub IsWitness : List Node → ℕ → List ℕ → Witness → Type 0
IsWitness nodes l variables found = IsFoundOf (length variables) (is_true_under nodes l variables)
    found

-- where an assignment was seen, or that there is none, less is left than there was
abbrev pub IsSpentOn : ℕ → ℕ → Witness → Type 0
IsSpentOn before left (Unknown None) = ⊤
IsSpentOn before left (Unknown (Some _)) = left < before
IsSpentOn before left (Least _) = left < before
IsSpentOn before left Never = left < before

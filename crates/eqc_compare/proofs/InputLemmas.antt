-- The values of a pair's inputs, by position and by variable.
use Rattle.std.proofs.Common.{◌≡◌, ℕ, ◌<◌, ◌≤◌, Bool, List, length, find, get_or, sym, ap, ◌∙◌}
use Rattle.std.proofs.Common.{arith, subst, Some, Vec, Global, Result, Ok, Err, IfOk}
use Rattle.std.specs.List.{All}
use Rattle.std.proofs.lemmas.List.FromFn.{length-map-range_with_len}
use Rattle.eqc_tree.specs.Assigned.{assigned, DependsOnlyOn, assignments}
use Rattle.eqc_compare.specs.Assigned.{DependsBelow}
use Rattle.eqc_pair.specs.PairOf.{PairOf, IsPair, variable_in, first_variables, input_values}
use Rattle.eqc_compare.specs.VerdictLaws.{IsLeast}
use Rattle.eqc_tree.proofs.AssignedLemmas.{assigned_at}
use Rattle.eqc_compare.proofs.CompareLaws.{below_all}
use Rattle.eqc_tree.proofs.FindLemmas.{find_same}
use Rattle.eqc_compare.proofs.LeastLemmas.{found_least}
use Rattle.eqc_build.proofs.PairLaws.{variables_at, variables_distinct}

variables_long : (p : PairOf) → length (first_variables p) ≡ length p.first.inputs
unfolding first_variables
variables_long p = length-map-range_with_len (variable_in p.order) 0 (length p.first.inputs)

-- a variable's input has that variable
variable_back : (p : PairOf) (v : ℕ) → IsPair p → v < length p.first.inputs
    → get_or (first_variables p) (get_or p.order v 0) 0 ≡ v
unfolding first_variables
variable_back p v h inside = variables_at (length p.first.inputs) (get_or p.order v 0) p.order
    (h.ordered.position_within v inside) ∙ h.ordered.at_position v inside

-- each variable is below the number of inputs
pub variables_below : (p : PairOf) (m : ℕ) → IsPair p → length p.first.inputs ≤ m
    → All (λ v. v < m) (first_variables p)
unfolding first_variables
variables_below p m h le = below_all (first_variables p) m (λ i lt.
    let inside : i < length p.first.inputs = omega (arith, variables_long p) in
    omega (
      arith,
      variables_at (length p.first.inputs) i p.order inside,
      h.ordered.variable_within i
          inside,
    ))

-- a function of no variable above is one of the inputs' variables
pub depends_on : (p : PairOf) (f : (ℕ → Bool) → Bool) → IsPair p
    → DependsBelow (length p.first.inputs) f → DependsOnlyOn (first_variables p) f
depends_on p f h depends a b same = depends a b (λ v inside.
    let back = variable_back p v h inside in
    ap a (sym back) ∙ (same (get_or p.order v 0) (omega (
      arith,
      variables_long p,
      h.ordered.position_within v inside,
    )) ∙ ap b back))

-- a variable has the value of its input
values_agree : (p : PairOf) (values : List Bool) (v : ℕ) → IsPair p → v < length p.first.inputs
    → assigned (first_variables p) values v ≡ input_values p values v
values_agree p values v h inside =
    ap (assigned (first_variables p) values) (sym (variable_back p v h inside))
    ∙ assigned_at (first_variables p) values (get_or p.order v 0) (variables_distinct p h)
    (omega (arith, variables_long p, h.ordered.position_within v inside))

-- what is found over the variables is the least assignment of the inputs
pub least_found : {E : Type 0} (p : PairOf) (f : (ℕ → Bool) → Bool) (variables : List ℕ)
    (result : Result (Vec Bool Global) E) → IsPair p →
    variables ≡ first_variables p → DependsBelow (length p.first.inputs) f →
    IfOk result (λ least. Some least.items ≡ find (λ values. f (assigned variables values))
    (assignments (length variables))) →
    IfOk result (λ least. IsLeast (length p.first.inputs) (λ values. f (input_values p values))
    least.items)
least_found p f variables (Err e) h are depends found = tt
least_found p f variables (Ok least) h are depends found =
    let P : List ℕ → Type 0 = λ variables. Some least.items
    ≡ find (λ values. f (assigned variables values)) (assignments (length variables)) in
    found_least (length p.first.inputs) (λ values. f (input_values p values)) least.items (sym (
    subst P are found
    ∙ (find_same (λ values. f (assigned (first_variables p) values))
    (λ values. f (input_values p values))
    (λ values. depends (assigned (first_variables p) values) (input_values p values)
    (λ v inside. values_agree p values v h inside))
    (assignments (length (first_variables p)))
    ∙ ap (λ n. find (λ values. f (input_values p values)) (assignments n)) (variables_long p))))

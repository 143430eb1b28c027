-- Inputs that are matched by name, and the variables of declared inputs.
use Rattle.std.proofs.Common.{◌≡◌, ℕ, ◌<◌, Bool, false, List, [], length, find, Option, None}
use Rattle.std.proofs.Common.{get_or, sym, ap, ◌∙◌}
use Rattle.eqc_netlist.specs.Names.{has_twice}
use Rattle.eqc_tree.specs.Assigned.{assigned, AreDistinct, assignments}
use Rattle.eqc_pair.specs.Matched.{position_of}
use Rattle.eqc_compare.specs.Verdict.{NetlistOf, values_for, differs_under, least_difference}
use Rattle.eqc_tree.proofs.AssignedLemmas.{assigned_at}
use Rattle.eqc_tree.proofs.FindLemmas.{find_agrees, find_none}
use Rattle.eqc_pair.proofs.PlaceLemmas.{place_itself}

-- an input has the value of the declared input of its name
pub matched_value : (declared names : List (List ℕ)) (a : List Bool) (i p : ℕ) → has_twice declared
    ≡ false → i < length declared →
    get_or declared i [] ≡ get_or names p [] → values_for declared a names p ≡ get_or a i false
matched_value declared names a i p differ h same =
    ap (λ name. get_or a (position_of declared name) false) (sym same)
    ∙ ap (λ k. get_or a k false) (place_itself declared i differ h)

-- an input has the value that the assignment of the variables gives the variable of the declared
-- input of its name
pub assigned_value : (variables : List ℕ) (declared names : List (List ℕ)) (a : List Bool) (p : ℕ)
    → AreDistinct variables →
    position_of declared (get_or names p []) < length variables →
    assigned variables a (get_or variables (position_of declared (get_or names p [])) 0)
    ≡ values_for declared a names p
assigned_value variables declared names a p distinct h =
    assigned_at variables a (position_of declared (get_or names p [])) distinct h

-- a function of variables is true under the assignments under which an output differs
pub record IsDifference (f g : NetlistOf) (h : Option NetlistOf) (output : List ℕ)
    (variables : List ℕ) (r : (ℕ → Bool) → Bool) : Type 0 where
  pub size : length variables ≡ length f.inputs
  pub agrees : (a : List Bool) → length a ≡ length f.inputs → r (assigned variables a)
      ≡ differs_under f g h output a

-- its least assignment is the least difference
pub least_of_difference : (f g : NetlistOf) (h : Option NetlistOf) (output : List ℕ)
    (variables : List ℕ) (r : (ℕ → Bool) → Bool) →
    IsDifference f g h output variables r
    → find (λ a. r (assigned variables a)) (assignments (length variables))
    ≡ least_difference f g h output
least_of_difference f g h output variables r is =
    rw is.size (find_agrees (length f.inputs) (λ a. r (assigned variables a))
    (differs_under f g h output) is.agrees)

-- where it is always false the output never differs
pub none_of_difference : (f g : NetlistOf) (h : Option NetlistOf) (output : List ℕ)
    (variables : List ℕ) (r : (ℕ → Bool) → Bool) →
    IsDifference f g h output variables r → ((a : ℕ → Bool) → r a ≡ false)
    → least_difference f g h output ≡ None
none_of_difference f g h output variables r is never =
    find_none (length f.inputs) (differs_under f g h output) (λ a long. sym (is.agrees a long)
    ∙ never (assigned variables a))

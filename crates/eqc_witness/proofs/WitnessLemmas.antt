-- What is found of a test holds of each that agrees with it, and what was spent on it.
use Rattle.std.proofs.Common.{◌≡◌, ◌<◌, ℕ, Bool, List, length, sym, ◌∙◌, Some, None, Result, Ok}
use Rattle.std.proofs.Common.{Err, IfOk}
use Rattle.eqc_tree.proofs.FindLemmas.{find_agrees}
use Rattle.eqc_xag.specs.declared.node.Node.{Node}
use Rattle.eqc_witness.specs.declared.witness.Witness.{Witness}
use Rattle.eqc_witness.specs.declared.witness.Witness.TheVariants.{Least, Never, Unknown}
use Rattle.eqc_witness.specs.Cones.{IsCopy, holds_under}
use Rattle.eqc_witness.specs.Witnesses.{IsFoundOf, IsSpentOn, IsWitness, is_true_under}

pub found_as : (n : ℕ) (p q : List Bool → Bool) (found : Witness) → ((t : List Bool) → length t ≡ n
    → p t ≡ q t) → IsFoundOf n p found → IsFoundOf n q found
found_as n p q (Least values) same is = sym (find_agrees n p q same) ∙ is
found_as n p q Never same is = sym (find_agrees n p q same) ∙ is
found_as n p q (Unknown None) same is = tt
found_as n p q (Unknown (Some values)) same is = (is.0, sym (same values.items is.0) ∙ is.1)

-- what is found of a copy over positions is found of the literal over their variables
pub found_by_copy : {E : Type 0} (nodes cone : List Node) (l root n : ℕ) (variables : List ℕ)
    (found : Result Witness E) → n ≡ length variables →
    IsCopy nodes cone variables l root → IfOk found (IsFoundOf n (holds_under cone root))
    → IfOk found (IsWitness nodes l variables)
found_by_copy nodes cone l root n variables (Err e) count copy is = tt
found_by_copy nodes cone l root n variables (Ok found) count copy is =
    found_as (length variables) (holds_under cone root) (is_true_under nodes l variables) found
    copy.value (rw count at is)

-- what is less than it was is so whatever was found
spent_on : (before left : ℕ) (found : Witness) → left < before → IsSpentOn before left found
spent_on before left (Least values) less = less
spent_on before left Never less = less
spent_on before left (Unknown None) less = tt
spent_on before left (Unknown (Some values)) less = less

pub spent_where_found : {E : Type 0} (before left : ℕ) (found : Result Witness E) → left < before
    → IfOk found (IsSpentOn before left)
spent_where_found before left (Err e) less = tt
spent_where_found before left (Ok found) less = spent_on before left found less

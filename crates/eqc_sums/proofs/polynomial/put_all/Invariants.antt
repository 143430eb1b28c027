use Rattle.std.proofs.Common.{ℕ, ◌+◌, ◌*◌, Bool, List, take}
use Rattle.std.specs.List.{All}
use Rattle.eqc_xag.specs.declared.node.Node.{Node}
use Rattle.eqc_xag.specs.Graph.{literal_value, IsWithin}
use Rattle.eqc_sums.specs.Forms.{terms_sum, HasSum}
use Rattle.eqc_sums.proofs.polynomial.put_all.Given as goal

abbrev pub invariant-loop-term : goal.invariant-loop-term
invariant-loop-term l = (nodes : List Node) (h : (ℕ → Bool) → ℕ) → HasSum nodes l.fn.out.items h
    → All (λ t. IsWithin nodes t.literal) l.terms
    → HasSum nodes l.out.items (λ a. h a + l.factor * terms_sum (literal_value nodes a)
    (take l.term-index l.terms))

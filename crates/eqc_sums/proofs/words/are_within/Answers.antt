use Rattle.std.proofs.Common.{ℕ, subst, arith}
use Rattle.std.proofs.lemmas.List.{get_or_default}
use Rattle.eqc_xag.specs.Graph.{IsWithin}
use Rattle.eqc_sums.proofs.words.are_within.Goals as goal

pub returns : goal.returns
returns c = λ _ k d inside.
    subst (λ (l : ℕ). IsWithin c.args.graph.now l) (get_or_default c.args.literals.now k 0 d inside)
    (c.loop-literal.invariant k (omega (arith, inside, c.loop-literal-test.false)))

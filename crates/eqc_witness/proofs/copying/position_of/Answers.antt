use Rattle.std.proofs.Common.{◌∙◌, sym, length, nat_eq, arith}
use Rattle.std.proofs.lemmas.Bool.{eq-eqb}
use Rattle.std.proofs.lemmas.List.Sums.{position_or_len_is}
use Rattle.eqc_witness.proofs.copying.position_of.Goals as goal

pub returns-then-from-variable : goal.returns-then-from-variable
returns-then-from-variable c =
    sym (position_or_len_is (λ v. nat_eq v c.args.variable) c.args.variables.now
    c.loop-position.position 0 (omega arith) c.loop-position.invariant
    (λ inside. eq-eqb _ c.args.variable (sym c.from.ensures ∙ c.if-from-variable.true)))

pub returns : goal.returns
returns c =
    sym (position_or_len_is (λ v. nat_eq v c.args.variable) c.args.variables.now
    (length c.args.variables.now) 0 (omega arith)
    (λ k inside. c.loop-position.invariant k (omega arith)) (λ inside. absurd (omega arith)))

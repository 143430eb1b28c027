use Rattle.std.proofs.Common.{refl, false}
use Rattle.eqc_compare.proofs.ToldLaws.{nothing_told}
use Rattle.eqc_compare.proofs.OutcomeLaws.{compared_outcome, without_assumption, none_lent}
use Rattle.eqc_compare.proofs.outcome.known_outcome.Goals as goal

pub returns : goal.returns
returns c =
    let p = c.args.pair.now in
    let none = none_lent p c.assumption.result c.assumption.ensures c.if-is_some.ensures in
    λ every. compared_outcome p every false c.new.result (without_assumption p none) refl
    (rw c.new.ensures.items (nothing_told p every (c.if-not-are_all_settled.ensures refl)))

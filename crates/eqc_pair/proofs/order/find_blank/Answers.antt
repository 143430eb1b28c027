use Rattle.std.proofs.Common.{arith, sym, ◌∙◌}
use Rattle.std.proofs.lemmas.List.Sums.{position_or_len_is}
use Rattle.eqc_pair.specs.Matched.{is_blank}
use Rattle.eqc_pair.proofs.order.find_blank.Goals as goal

pub returns : goal.returns
returns c = sym (position_or_len_is is_blank c.args.bytes.now _ 0 (omega arith)
    (λ k h. c.loop-i.invariant k (omega arith)) (λ h. absurd (omega arith)))

pub returns-then-is_blank : goal.returns-then-is_blank
returns-then-is_blank c = sym (position_or_len_is is_blank c.args.bytes.now c.loop-i.i 0
    (omega arith) c.loop-i.invariant (λ _. sym c.is_blank.ensures ∙ c.if-is_blank.true))

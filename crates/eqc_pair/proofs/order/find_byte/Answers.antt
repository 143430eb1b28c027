use Rattle.std.proofs.Common.{arith, sym, eqb, eq-eqb}
use Rattle.std.proofs.lemmas.List.Sums.{position_or_len_is}
use Rattle.eqc_pair.proofs.order.find_byte.Goals as goal

pub returns : goal.returns
returns c = sym (position_or_len_is (λ b. eqb b c.args.wanted) c.args.bytes.now _ 0 (omega arith)
    (λ k h. c.loop-i.invariant k (omega arith)) (λ h. absurd (omega arith)))

pub returns-then-byte-wanted : goal.returns-then-byte-wanted
returns-then-byte-wanted c = sym (position_or_len_is (λ b. eqb b c.args.wanted) c.args.bytes.now
    c.loop-i.i 0 (omega arith) c.loop-i.invariant (λ _. eq-eqb _ _ c.if-byte-wanted.true))

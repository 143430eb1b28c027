use Rattle.std.proofs.Common.{arith, sym}
use Rattle.std.proofs.lemmas.List.Sums.{position_or_len_is}
use Rattle.std.proofs.lemmas.Bool.{eq-eqb}
use Rattle.eqc_blif.specs.Words.{is_equals_sign}
use Rattle.eqc_blif.proofs.text.words.find_equals_sign.Goals as goal

pub returns : goal.returns
returns c = sym (position_or_len_is is_equals_sign c.args.word.now _ 0 (omega arith)
    (λ k h. c.loop-i.invariant k (omega arith)) (λ h. absurd (omega arith)))

pub returns-then-byte-eq61 : goal.returns-then-byte-eq61
returns-then-byte-eq61 c = sym (position_or_len_is is_equals_sign c.args.word.now c.loop-i.i 0
    (omega arith) c.loop-i.invariant (λ _. eq-eqb _ _ c.if-byte-eq61.true))

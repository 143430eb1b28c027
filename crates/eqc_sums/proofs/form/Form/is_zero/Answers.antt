use Rattle.std.proofs.Common.{arith}
use Rattle.eqc_sums.proofs.FormLemmas.{zero_value}
use Rattle.eqc_sums.proofs.form.Form.is_zero.Goals as goal

pub returns : goal.returns
returns c = λ _ nodes a graph. zero_value nodes a c.args.self.now graph c.if-self-ne0.false
    (λ k inside ne. c.loop-k.invariant k (omega (arith, inside, c.loop-k-test.false)) ne)

use Rattle.std.proofs.Common.{◌+◌, length, refl, ◌∙◌, ap, ◌∷◌, [], arith, ◌++◌}
use Rattle.std.proofs.lemmas.List.{length-append}
use Rattle.eqc_sums.proofs.FormLemmas.{same_value, pushed_value}
use Rattle.eqc_sums.proofs.form.Form.reach.Goals as goal

pub returns-in_err-push-clause-value : goal.returns-in_err-push-clause-value
returns-in_err-push-clause-value c = λ nodes a. same_value nodes a c.loop-k.self _ refl
    c.in_err-push.ensures.items ∙ c.loop-k.invariant.same nodes a

pub loop-k-preserved : goal.loop-k-preserved
loop-k-preserved c = record {
  reached = omega (arith, c.in_ok-push.ensures.len, c.loop-k.invariant.reached);
  most = λ n all few. omega (
    arith,
    c.in_ok-push.ensures.len,
    c.loop-k.invariant.reached,
    c.loop-k-test.true,
    few,
  );
  same = λ nodes a. pushed_value nodes a c.loop-k.self _ refl c.in_ok-push.ensures.items
      ∙ c.loop-k.invariant.same nodes a;
}

use Rattle.std.proofs.Common.{refl}
use Rattle.eqc_xag.specs.Graph.{literal_value}
use Rattle.eqc_sums.proofs.FormLemmas.{added_none}
use Rattle.eqc_sums.proofs.form.Form.add_all.Goals as goal

pub loop-term-init : goal.loop-term-init
loop-term-init c = record {
  same = refl;
  sum = λ nodes a. added_none nodes a c.args.self.now
      (literal_value nodes a) c.args.terms.now;
}

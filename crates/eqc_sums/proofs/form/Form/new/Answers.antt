use Rattle.std.proofs.Common.{refl}
use Rattle.eqc_sums.proofs.FormLemmas.{nothing_value}
use Rattle.eqc_sums.proofs.form.Form.new.Goals as goal

pub returns-clause-value : goal.returns-clause-value
returns-clause-value c = λ nodes a. nothing_value nodes a _ refl c.new.ensures.items

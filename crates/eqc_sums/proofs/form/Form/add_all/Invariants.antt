use Rattle.std.proofs.Common.{◌≡◌, ℕ, ◌+◌, ◌%◌, ◌^◌, Bool, List, length, take}
use Rattle.eqc_xag.specs.declared.node.Node.{Node}
use Rattle.eqc_xag.specs.Graph.{literal_value}
use Rattle.eqc_sums.specs.Forms.{terms_sum, form_value}
use Rattle.eqc_sums.proofs.form.Form.add_all.Given as goal

abbrev pub invariant-loop-term : goal.invariant-loop-term
invariant-loop-term l = record {
  same : length l.self.coefficients.items ≡ length l.fn.self.coefficients.items;
  sum : (nodes : List Node) (a : ℕ → Bool) → form_value nodes a l.self
      ≡ (form_value nodes a l.fn.self + terms_sum (literal_value nodes a)
      (take l.term-index l.terms)) % 2 ^ 128;
}

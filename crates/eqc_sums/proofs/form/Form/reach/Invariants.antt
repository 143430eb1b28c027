use Rattle.std.proofs.Common.{◌≡◌, ℕ, ◌≤◌, Bool, List, length}
use Rattle.eqc_xag.specs.declared.node.Node.{Node}
use Rattle.eqc_sums.specs.Forms.{form_value}
use Rattle.eqc_sums.proofs.form.Form.reach.Given as goal

abbrev pub invariant-loop-k : goal.invariant-loop-k
invariant-loop-k l = record {
  reached : l._k ≡ length l.self.coefficients.items;
  most : (n : ℕ) → length l.fn.self.coefficients.items ≤ n → l.nodes ≤ n
      → length l.self.coefficients.items ≤ n;
  same : (nodes : List Node) (a : ℕ → Bool) → form_value nodes a l.self
      ≡ form_value nodes a l.fn.self;
}

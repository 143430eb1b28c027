use Rattle.std.proofs.Common.{◌≡◌, ℕ, Bool, List, IsTrue, subst, ◌∙◌, rules}
use Rattle.eqc_xag.specs.declared.node.Node.{Node}
use Rattle.eqc_xag.specs.Graph.{IsGraph}
use Rattle.eqc_sums.specs.declared.form.Form.{Form}
use Rattle.eqc_sums.specs.Forms.{form_value}
use Rattle.eqc_sums.proofs.WordLemmas.{concluded}
use Rattle.eqc_adders.proofs.sums.Sums.shown.Goals as goal

pub returns-clause-equal : goal.returns-clause-equal
returns-clause-equal c = λ zero.
    let is : IsTrue c.in_ok-begin.field-0 = search rules in
    let graph = subst (λ (nodes : List Node). IsGraph nodes) (c.graph-2.ensures ∙ c.sweep-2.ensures)
    c.len-2.ensures.graph in
    let none = subst (λ (f : Form). (nodes : List Node) (a : ℕ → Bool) → IsGraph nodes
    → form_value nodes a f ≡ 0) c.form.ensures (c.is_zero.ensures zero) in
    concluded c.begin.new.self.sweep c.reduce.new.reduction.sweep c.begin.new.self.form
    c.reduce.new.reduction.form c.args.ps.now c.args.qs.now (c.in_ok-begin.ensures.begun is)
    c.reduce.ensures graph none

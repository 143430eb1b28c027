use Rattle.std.proofs.Common.{ℕ, sym, ap, ◌∙◌, arith}
use Rattle.eqc_core.proofs.Bounds.{node_stripe}
use Rattle.eqc_core.proofs.Removals.{none_there}
use Rattle.eqc_core.specs.Tables.{table_word}
use Rattle.eqc_core.proofs.table.Hand.has_room.Goals as goal

pub returns-then-stripe-self : goal.returns-then-stripe-self
returns-then-stripe-self c =
    let n = node_stripe c.args.variable c.args.low c.args.high c.requires.low c.requires.high in
    let d = c.if-stripe-self.true in
    ((λ t. absurd (cc)), (λ r. absurd (let s = r.0 in omega arith)))

pub returns : goal.returns
returns c =
    let n = node_stripe c.args.variable c.args.low c.args.high c.requires.low c.requires.high in
    let t = c.args.self.now.table.entries.items in
    let e = ap (λ (k : ℕ). table_word k t) c.pack_node.ensures in
    let q = none_there c.has_word.result (table_word c.pack_node.result t) c.has_word.ensures.0
    c.has_word.ensures.1 in
    ((λ k. (sym (n ∙ c.if-stripe-self.false), sym e ∙ q.0 k)), (λ r. q.1 (e ∙ r.1)))

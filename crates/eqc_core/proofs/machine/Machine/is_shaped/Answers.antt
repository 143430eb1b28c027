use Rattle.std.proofs.Common.{sym, ap, ◌∙◌, refl, arith}
use Rattle.eqc_core.specs.Trees.{variable_at}
use Rattle.eqc_core.proofs.Bounds.{fields}
use Rattle.eqc_core.proofs.machine.Machine.is_shaped.Goals as goal

pub returns-then-variable-self : goal.returns-then-variable-self
returns-then-variable-self c =
    let few = c.requires.kept.lawful.sized.few_names in
    let lt = c.requires.low in
    let ht = c.requires.high in
    let f = fields c.args.variable c.args.low c.args.high (omega arith) (omega arith) in
    let a = f.variable_is in
    let big = c.if-variable-self.true in
    ((λ t. absurd (cc)), (λ s. absurd (let k = s.few in omega arith)))

pub returns-then-low-high : goal.returns-then-low-high
returns-then-low-high c =
    let few = c.requires.kept.lawful.sized.few_names in
    let lt = c.requires.low in
    let ht = c.requires.high in
    let f = fields c.args.variable c.args.low c.args.high (omega arith) (omega arith) in
    let a = f.variable_is in
    ((λ t. absurd (cc)), (λ s. absurd (s.differ (f.low_is ∙ (c.if-low-high.true ∙ sym f.high_is)))))

pub returns-then-variable-variable_at : goal.returns-then-variable-variable_at
returns-then-variable-variable_at c =
    let few = c.requires.kept.lawful.sized.few_names in
    let lt = c.requires.low in
    let ht = c.requires.high in
    let f = fields c.args.variable c.args.low c.args.high (omega arith) (omega arith) in
    let a = f.variable_is in
    let e = ap (variable_at c.args.self.now.nodes.items) f.low_is in
    let r = c.variable_at.ensures in
    let big = c.if-variable-variable_at.true in
    ((λ t. absurd (cc)), (λ s. absurd (let k = s.above_low in omega arith)))

pub returns-then-variable-variable_at-2 : goal.returns-then-variable-variable_at-2
returns-then-variable-variable_at-2 c =
    let few = c.requires.kept.lawful.sized.few_names in
    let lt = c.requires.low in
    let ht = c.requires.high in
    let f = fields c.args.variable c.args.low c.args.high (omega arith) (omega arith) in
    let a = f.variable_is in
    let e = ap (variable_at c.args.self.now.nodes.items) f.high_is in
    let r = c.variable_at-2.ensures in
    let big = c.if-variable-variable_at-2.true in
    ((λ t. absurd (cc)), (λ s. absurd (let k = s.above_high in omega arith)))

pub returns : goal.returns
returns c =
    let few = c.requires.kept.lawful.sized.few_names in
    let lt = c.requires.low in
    let ht = c.requires.high in
    let f = fields c.args.variable c.args.low c.args.high (omega arith) (omega arith) in
    let a = f.variable_is in
    let e = ap (variable_at c.args.self.now.nodes.items) f.low_is in
    let g = ap (variable_at c.args.self.now.nodes.items) f.high_is in
    let r = c.variable_at.ensures in
    let q = c.variable_at-2.ensures in
    let h = c.if-variable-self.false in
    let i = c.if-variable-variable_at.false in
    let j = c.if-variable-variable_at-2.false in (
      (λ t. record {
        few = omega arith;
        above_low = omega arith;
        above_high = omega arith;
        differ =
            λ s. c.if-low-high.false (sym f.low_is ∙ (s ∙ f.high_is));
      }),
      (λ s. refl),
    )

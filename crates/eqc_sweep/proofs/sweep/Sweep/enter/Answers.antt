use Rattle.std.proofs.Common.{◌≡◌, ℕ, List, length, subst, sym}
use Rattle.eqc_xag.specs.declared.node.Node.{Node}
use Rattle.eqc_sweep.specs.Known.{IsLiteralOf}
use Rattle.eqc_sweep.specs.Sweeping.{HasValueOf}
use Rattle.eqc_sweep.proofs.SweepLemmas.{value_known, literal_new}
use Rattle.eqc_sweep.proofs.sweep.Sweep.enter.Goals as goal

pub returns-in-Some-clause-value : goal.returns-in-Some-clause-value
returns-in-Some-clause-value c =
    let known = c.in-Some.ensures c.self.inside.graph c.self.invariant in
    subst (λ (nodes : List Node). HasValueOf nodes nodes c.args.node c.in-Some.literal)
    c.self.view_is (value_known c.self.inside.graph c.args.node c.in-Some.literal known)

pub invariant_of-self : goal.invariant_of-self
invariant_of-self c =
    let is = literal_new c.args.self.now c.make.new.self c.args.node c.in_ok-literal.literal
    c.requires c.in_ok-literal.ensures.extends c.in_ok-literal.ensures.value in
    let there = subst (λ (nodes : List Node). IsLiteralOf nodes c.args.node c.in_ok-literal.literal)
    (sym c.self-2.view_is) is in
    c.put.ensures c.self-2.inside.graph c.len.ensures.graph c.self-2.invariant there

pub invariant_of-self-2 : goal.invariant_of-self-2
invariant_of-self-2 c =
    let is = literal_new c.args.self.now c.make.new.self c.args.node c.in_ok-literal.literal
    c.requires c.in_ok-literal.ensures.extends c.in_ok-literal.ensures.value in
    let there = subst (λ (nodes : List Node). IsLiteralOf nodes c.args.node c.in_ok-literal.literal)
    (sym c.self-2.view_is) is in
    c.put.ensures c.self-2.inside.graph c.len.ensures.graph c.self-2.invariant there

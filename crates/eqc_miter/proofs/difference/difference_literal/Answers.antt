use Rattle.std.proofs.Common.{arith, sym}
use Rattle.eqc_literals.proofs.LiteralLaws.{inside_along}
use Rattle.eqc_miter.proofs.MiterLaws.{says_different}
use Rattle.eqc_miter.proofs.difference.difference_literal.Goals as goal

pub and-requires-clause-x : goal.and-requires-clause-x
and-requires-clause-x c = omega (
  arith,
  c.in-Some.ensures.allowed.within,
  c.in_ok-differ.ensures.extends.longer,
)

pub returns-clause-inside : goal.returns-clause-inside
returns-clause-inside c = inside_along c.args.steps.now c.args.sweep.now c.xor.new.self
    c.and.new.self c.args.literals.now c.xor.ensures.extends c.and.ensures.extends c.requires.inside

pub returns-clause-literal : goal.returns-clause-literal
returns-clause-literal c =
    says_different c.args.steps.now c.args.sweep.now c.xor.new.self c.and.new.self
    c.args.literals.now c.roots-roots.result c.args.output c.in-Some-literal_of.x
    c.in-Some-literal_of-2.y c.in-Some.allowed
    c.in_ok-differ.differ c.in_ok-literal.literal
    c.requires.inside c.requires.output c.roots-roots.ensures (sym c.in-Some-literal_of.ensures)
    (sym c.in-Some-literal_of-2.ensures)
    c.in-Some.ensures.allowed c.xor.ensures.extends c.in_ok-differ.ensures.value
    c.in_ok-literal.ensures.value

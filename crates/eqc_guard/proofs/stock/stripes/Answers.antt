use Rattle.std.proofs.Common.{◌≡◌, ap, ◌∙◌, arith, ℕ, map}
use mathlib.Core.Option.{some}
use Rattle.eqc_core.specs.State.{homes_from}
use Rattle.eqc_guard.specs.Rule.{homes_of}
use Rattle.eqc_core.proofs.Stocks.{all_homes}
use Rattle.eqc_guard.proofs.Stocking.{one_home}
use Rattle.eqc_guard.proofs.stock.stripes.Goals as goal

pub loop-s-preserved : goal.loop-s-preserved
loop-s-preserved c =
    ap (λ ms. homes_of (map some ms)) c.in_ok-push.ensures.items
    ∙ one_home c.loop-s.maps.items c.in_ok-stripe_literals.field-0 c.loop-s.s c.args.n
    c.loop-s.invariant c.in_ok-stripe_literals.ensures

pub returns : goal.returns
returns c = let e : c.loop-s.s ≡ 16 = let t = c.loop-s-test.false in let u = c.loop-s.auto.s-end in
    omega arith in c.loop-s.invariant ∙ (ap (λ (k : ℕ). homes_from 0 k c.args.n) e
    ∙ all_homes c.args.n)

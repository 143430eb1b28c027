use Rattle.std.proofs.Common.{List, length, refl, sym, ap, subst, arith}
use Rattle.eqc_xag.specs.Graph.{literal_value}
use Rattle.eqc_sums.specs.declared.term.Term.{Term}
use Rattle.eqc_sums.specs.Forms.{HasSum}
use Rattle.eqc_sums.proofs.GateLemmas.{there}
use Rattle.eqc_sums.proofs.StepLemmas.{has_push}
use Rattle.eqc_sums.proofs.PolynomialLemmas.{put_there}
use Rattle.eqc_sums.proofs.polynomial.put.Goals as goal

pub returns-then-old-term : goal.returns-then-old-term
returns-then-old-term c = λ nodes h has within.
    put_there nodes c.loop-k.out.items _ c.loop-k.k c.args.term.literal c.args.term.factor
    c.index-old.result.now h
    (omega (
      arith,
      c.loop-k-test.true,
      c.len-k-end.ensures,
      ap (λ (ts : List Term). length ts)
          c.loop-k.invariant,
    ))
    c.index-old.ensures c.if-old-term.true refl within
    (subst (λ (ts : List Term). HasSum nodes ts h) (sym c.loop-k.invariant) has)

pub returns : goal.returns
returns c = λ nodes h has within.
    has_push nodes c.loop-k.out.items _ c.args.term.literal c.args.term.factor
    (λ a. literal_value nodes a c.args.term.literal) h c.in_ok-push.ensures.items
    (subst (λ (ts : List Term). HasSum nodes ts h) (sym c.loop-k.invariant) has)
    (there nodes c.args.term.literal within)

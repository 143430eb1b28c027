use Rattle.std.proofs.Common.{sym, subst, ℕ, List}
use Rattle.eqc_flat.specs.Ordering.{IsTrailBelow}
use Rattle.eqc_flat.proofs.FindingLaws.{walk_inside, circle_named}
use Rattle.eqc_flat.proofs.finding.circle_finding.circle_in.Goals as goal

pub named_circle-requires-clause-back : goal.named_circle-requires-clause-back
named_circle-requires-clause-back c =
    let P : List ℕ → Type 0 = λ l. IsTrailBelow c.args.hierarchy.now.0 c.args.hierarchy.now.1 l in
    let trail = subst P (sym c.deref.ensures.value) c.in_ok-trail.ensures in
    trail.2.2.back

pub named_circle-requires-clause-within : goal.named_circle-requires-clause-within
named_circle-requires-clause-within c =
    let P : List ℕ → Type 0 = λ l. IsTrailBelow c.args.hierarchy.now.0 c.args.hierarchy.now.1 l in
    let trail = subst P (sym c.deref.ensures.value) c.in_ok-trail.ensures in
    walk_inside c.args.hierarchy.now.0 c.args.hierarchy.now.1 trail.0 c.deref.result.now trail.1
    trail.2

pub returns : goal.returns
returns c =
    let P : List ℕ → Type 0 = λ l. IsTrailBelow c.args.hierarchy.now.0 c.args.hierarchy.now.1 l in
    let trail = subst P (sym c.deref.ensures.value) c.in_ok-trail.ensures in
    let (start, before, again, is) = c.in_ok-circle.ensures in
    circle_named c.args.hierarchy.now.0 c.args.hierarchy.now.1 trail.0 c.deref.result.now start
    c.in_ok-circle.circle trail.1 trail.2 before again is

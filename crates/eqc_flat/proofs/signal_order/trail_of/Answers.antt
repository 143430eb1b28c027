use Rattle.std.proofs.Common.{ap, subst, sym, List, ℕ, Vec, Global}
use Rattle.eqc_flat.specs.Ordering.{IsTrail}
use Rattle.eqc_flat.proofs.OrderLaws.{not_ended}
use Rattle.eqc_flat.proofs.signal_order.trail_of.Goals as goal

pub returns : goal.returns
returns c =
    let P : List ℕ → Type 0 = λ l. IsTrail c.args.drivers.now l in
    let left = not_ended c.args.drivers.now c.in_ok-search.search.order.items
    c.in_ok-search.field-0-0 c.requires.circular c.in_ok-search.ensures.order in
    subst P (sym (ap (λ (v : Vec ℕ Global). v.items) c.into_trail.ensures))
    (c.in_ok-search.ensures.trail left)

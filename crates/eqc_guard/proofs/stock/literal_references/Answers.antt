use Rattle.std.proofs.Common.{◌+◌, map, refl, ap, ◌∙◌, arith}
use Rattle.eqc_guard.proofs.Stocking.{one_reference}
use Rattle.eqc_guard.proofs.stock.literal_references.Goals as goal

pub loop-k-preserved : goal.loop-k-preserved
loop-k-preserved c =
    let items = rw c.unwrap.ensures at c.push.ensures.items in
    let len = rw c.unwrap.ensures at c.push.ensures.len in
    record {
      count = omega (arith, len, c.loop-k.invariant.count);
      room = omega (arith, c.push.ensures.capacity, c.loop-k.invariant.room);
      slots = ap (λ rs. map (λ r. r.number) rs) items ∙ one_reference c.loop-k.references.items
          (record { number = c.loop-k.k + 2 }) c.loop-k.k c.loop-k.invariant.slots refl;
    }

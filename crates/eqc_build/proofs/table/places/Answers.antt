use Rattle.std.proofs.Common.{arith}
use Rattle.eqc_cover.proofs.MappedLemmas.{none_more}
use Rattle.eqc_build.proofs.table.places.Goals as goal

pub unwrap-requires : goal.unwrap-requires
unwrap-requires g c = c.push.ensures.succeeds (omega arith)

pub loop-i-preserved : goal.loop-i-preserved
loop-i-preserved g c =
    let items = rw c.unwrap.ensures at c.push.ensures.items in
    let len = rw c.unwrap.ensures at c.push.ensures.len in (
      omega (arith, len),
      omega (arith, c.push.ensures.capacity),
      λ s. rw items (none_more c.loop-i.table.items c.loop-i.invariant.2 s),
    )

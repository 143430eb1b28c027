use Rattle.std.proofs.Common.{◌≡◌, ℕ, ◌<◌, get_or}
use Rattle.eqc_apply.specs.Joining.{HasTwo, Merges}
use Rattle.eqc_apply.proofs.joining.merge.Given as goal

abbrev pub invariant-loop-place : goal.invariant-loop-place
invariant-loop-place l = record {
  has : (n : ℕ) → HasTwo n l.initial.worker l.initial.counts.items l.initial.rest.items
      → HasTwo n l.worker l.counts.items l.rest.items;
  merges : Merges l.initial.worker l.initial.counts.items l.initial.rest.items l.worker
      l.counts.items l.rest.items;
  done : (y : ℕ) → y < l.place → get_or l.rest.items y 0 ≡ 0;
}

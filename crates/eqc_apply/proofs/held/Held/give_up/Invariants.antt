use Rattle.std.proofs.Common.{◌≡◌, ◌≢◌, ℕ, ◌<◌, length, get_or}
use Rattle.eqc_apply.specs.Extending.{Stays}
use Rattle.eqc_apply.proofs.held.Held.give_up.Given as goal

abbrev pub invariant-loop-place : goal.invariant-loop-place
invariant-loop-place l = record {
  stays : Stays l.fn.self l.self;
  len : length l.self.counts.items ≡ length l.fn.self.counts.items;
  done : (y : ℕ) → y < l.place → get_or l.self.counts.items y 0 ≢ 1;
}

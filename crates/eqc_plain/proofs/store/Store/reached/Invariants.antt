use Rattle.std.proofs.Common.{ℕ, ◌+◌, ◌-◌, ◌<◌, ◌≤◌, length}
use Rattle.eqc_plain.specs.Copying.{Has}
use Rattle.eqc_plain.proofs.Copying.{AreFollowed}
use Rattle.eqc_plain.proofs.store.Store.reached.Given as goal

abbrev pub invariant-places : goal.invariant-places
invariant-places l = record {
  zero : Has l.reached.keys 0;
  one : Has l.reached.keys 1;
  top : Has l.reached.keys l.f;
  within : (q : ℕ) → Has l.reached.keys q → q < length l.self.nodes + 2;
  followed : AreFollowed l.self.nodes l.reached.keys l.k;
  upto : l.k ≤ length l.reached.keys;
}

abbrev pub decreases-places : goal.decreases-places
decreases-places l = length l.self.nodes + 2 - l.k

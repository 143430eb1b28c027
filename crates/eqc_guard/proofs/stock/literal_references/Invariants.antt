use Rattle.std.proofs.Common.{◌≡◌, ◌≤◌, map, vec_len, vec_capacity}
use Rattle.eqc_core.specs.State.{slots_from}
use Rattle.eqc_guard.proofs.stock.literal_references.Given as goal

abbrev pub invariant-loop-k : goal.invariant-loop-k
invariant-loop-k l = record {
  count : vec_len l.references ≡ l.k;
  room : l.n ≤ vec_capacity l.references;
  slots : map (λ r. r.number) l.references.items ≡ slots_from 2 l.k;
}

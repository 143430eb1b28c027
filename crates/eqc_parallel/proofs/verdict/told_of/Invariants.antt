use Rattle.std.proofs.Common.{◌≡◌, ◌<◌, ◌≤◌, ◌-◌, ℕ, None, vec_len, slice_index_or}
use Rattle.eqc_compare.proofs.ToldLaws.{AreToldBefore}
use Rattle.eqc_parallel.proofs.verdict.told_of.Given as goal

abbrev pub invariant-loop-next : goal.invariant-loop-next
invariant-loop-next l = record {
  size : vec_len l.row ≡ vec_len l.fn.row;
  rest : (o : ℕ) → l.next ≤ o → o < vec_len l.row → slice_index_or l.row.items o None
      ≡ slice_index_or l.fn.row.items o None;
  told : AreToldBefore l.fn.pair l.every l.found.items l.next;
}

abbrev pub decreases-loop-next : goal.decreases-loop-next
decreases-loop-next l = vec_len l.row - l.next

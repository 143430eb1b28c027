use Rattle.std.proofs.Common.{◌≡◌, ◌<◌, ◌≤◌, ℕ, None, length, vec_len, slice_index_or, All}
use Rattle.eqc_parallel.specs.Ticket.{times, once_below}
use Rattle.eqc_parallel.specs.Verdicts.{asked, IsRight, Stands, named}
use Rattle.eqc_parallel.proofs.verdict.in_order.Given as goal

abbrev pub invariant-loop-output : goal.invariant-loop-output
invariant-loop-output l = let m = length l.fn.pair.first.outputs in
    (vec_len l.row ≡ m)
    × ((x : ℕ) → times x (named l.rest.items) ≤ once_below x m)
    × All (IsRight (asked l.fn.pair l.every)) l.rest.items
    × ((o : ℕ) → o < m → Stands (asked l.fn.pair l.every) l.rest.items o (slice_index_or l.row.items
    o None))

abbrev pub decreases-loop-output : goal.decreases-loop-output
decreases-loop-output l = goal.left-loop-output l

use Rattle.std.proofs.Common.{◌≡◌, ◌≤◌, ℕ, None}
use Rattle.std.specs.Vec.{vec_capacity, vec_len}
use Rattle.eqc_build.specs.Building.{reference_of}
use Rattle.eqc_build.proofs.table.places.Given as goal

abbrev pub invariant-loop-i : goal.invariant-loop-i
invariant-loop-i g l = (vec_len l.table ≡ l.i) × (l.count ≤ vec_capacity l.table)
    × ((s : ℕ) → reference_of l.table.items s ≡ None)

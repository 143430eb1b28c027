use Rattle.std.proofs.Common.{◌≡◌, ◌<◌, ℕ, [], get_or, length}
use Rattle.eqc_strash.specs.Tables.{Grows, Stands}
use Rattle.eqc_strash.proofs.row_set.RowSet.places.Given as goal

abbrev pub invariant-loop-r : goal.invariant-loop-r
invariant-loop-r l = record {
  size : length l.places.items ≡ l.r;
  grown : Grows [] l.initial.self l.self l.r;
  each : (j : ℕ) → j < l.r → Stands [] l.self (get_or l.places.items j 0) (get_or l.flat.rows j []);
}

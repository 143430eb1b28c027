use Rattle.std.proofs.Common.{ℕ, ◌<◌, get_or}
use Rattle.eqc_plain.specs.Seeking.{Sits}
use Rattle.eqc_plain.proofs.unique_table.placed.Given as goal

abbrev pub invariant-words : goal.invariant-words
invariant-words l = (k : ℕ) → k < l.slot → Sits l.places.items (get_or l.words k 0) k

use Rattle.std.proofs.Common.{◌≡◌, ◌<◌, ℕ, length, get_or}
use Rattle.eqc_pair.proofs.places.places_of.Given as goal

abbrev pub invariant-loop-k : goal.invariant-loop-k
invariant-loop-k l = (length l.places.items ≡ length l.flat.drivers)
    × ((i : ℕ) → i < l.k → get_or l.places.items (get_or l.flat.steps i 0) 0 ≡ i)

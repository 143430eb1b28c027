use Rattle.std.proofs.Common.{◌≡◌, ◌≢◌, ℕ, ◌+◌, ◌<◌, length, get_or}
use Rattle.eqc_plain.specs.Seeking.{mark_of, entry_behind, AreTaken}
use Rattle.eqc_plain.proofs.unique_table.seek.Given as goal

abbrev pub invariant-loop-step : goal.invariant-loop-step
invariant-loop-step l = record {
  taken : AreTaken l.places l.word l.step;
  missed : (e : ℕ) → e < l.step → (k : ℕ) → k < length l.words → get_or l.words k 0 ≡ l.word
      → entry_behind l.places l.word e ≢ mark_of l.word + k + 1;
}

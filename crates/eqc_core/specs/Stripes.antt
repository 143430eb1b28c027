-- When a node word belongs into a stripe's table, and isn't there.
use Rattle.std.specs.Prelude.{◌≡◌, ℕ}
use Rattle.eqc_core.specs.Words.{stripe_of}
use Rattle.eqc_core.specs.Tables.{Entries, table_word}

abbrev pub HasRoom : ℕ → Entries → ℕ → Type 0
HasRoom s t word = (s ≡ stripe_of word) × (table_word word t ≡ 0)

use Rattle.std.proofs.Common.{◌≡◌}
use Rattle.eqc_core.specs.State.{literals}
use Rattle.eqc_core.proofs.stock.literal_words.Given as goal

abbrev pub invariant-loop-k : goal.invariant-loop-k
invariant-loop-k l = l.words.items ≡ literals 0 l.k

use Rattle.std.proofs.Common.{◌≡◌, ◌++◌, length}
use Rattle.eqc_blif.specs.Words.{words}
use Rattle.eqc_blif.proofs.text.words.names_in.Given as goal

abbrev pub invariant-words : goal.invariant-words
invariant-words l = l.names.items ++ words l.rest ≡ words l.line

abbrev pub decreases-words : goal.decreases-words
decreases-words l = length l.rest

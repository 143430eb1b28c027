use Rattle.std.proofs.Common.{◌≡◌, ◌++◌, length}
use Rattle.eqc_blif.specs.Words.{words}
use Rattle.eqc_blif.proofs.names.list.NameList.add_words.Given as goal

abbrev pub invariant-words : goal.invariant-words
invariant-words l = l.self ++ words l.rest ≡ l.fn.self ++ words l.line

abbrev pub decreases-words : goal.decreases-words
decreases-words l = length l.rest

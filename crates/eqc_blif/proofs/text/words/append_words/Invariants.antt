use Rattle.std.proofs.Common.{◌≡◌, ◌++◌, length}
use Rattle.smallvec.specs.SmallVec.{HasRoomFor}
use Rattle.eqc_blif.specs.Words.{without_blanks}
use Rattle.eqc_blif.proofs.text.words.append_words.Given as goal

abbrev pub invariant-words : goal.invariant-words
invariant-words l = record {
  put : l.bytes.items ++ without_blanks l.rest ≡ l.fn.bytes.items ++ without_blanks l.line;
  room : HasRoomFor l.bytes (length (without_blanks l.rest));
}

abbrev pub decreases-words : goal.decreases-words
decreases-words l = length l.rest

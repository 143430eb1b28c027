use Rattle.std.proofs.Common.{◌≡◌, ◌≤◌, length}
use Rattle.eqc_blif.specs.Words.{words, without_blanks}
use Rattle.eqc_blif.proofs.text.words.split_word.Given as goal

abbrev pub invariant-blanks : goal.invariant-blanks
invariant-blanks l = record {
  words : words l.rest ≡ words l.line;
  blanks : without_blanks l.rest
      ≡ without_blanks l.line;
  shorter : length l.rest ≤ length l.line;
}

abbrev pub decreases-blanks : goal.decreases-blanks
decreases-blanks l = length l.rest

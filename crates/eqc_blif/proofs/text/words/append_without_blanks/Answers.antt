use Rattle.std.proofs.Common.{arith}
use Rattle.eqc_blif.proofs.WordLemmas.{left_short}
use Rattle.eqc_blif.proofs.text.words.append_without_blanks.Goals as goal

pub append_words-requires : goal.append_words-requires
append_words-requires c = omega (
  arith,
  left_short c.args.line.now,
  c.in_ok-reserve_sparing.ensures.room,
)

use Rattle.std.proofs.Common.{◌≡◌, ◌-◌, ◌++◌, length, take}
use Rattle.smallvec.specs.SmallVec.{HasRoomFor}
use Rattle.eqc_blif.specs.Words.{without_blanks}
use Rattle.eqc_blif.proofs.text.words.append_without_blanks.Given as goal

abbrev pub invariant-bytes : goal.invariant-bytes
invariant-bytes l = record {
  put : l.bytes.items ≡ l.fn.bytes.items ++ without_blanks (take l.byte-index l.line);
  room : HasRoomFor l.bytes (length l.line - l.byte-index);
}

use Rattle.std.proofs.Common.{◌≡◌, take}
use Rattle.std.specs.List.{list_any}
use Rattle.eqc_blif.specs.Reading.{is_bad_byte}
use Rattle.eqc_blif.proofs.reader.has_bad_byte.Given as goal

abbrev pub invariant-bytes : goal.invariant-bytes
invariant-bytes l = l.found ≡ list_any is_bad_byte (take l.byte-index l.line)

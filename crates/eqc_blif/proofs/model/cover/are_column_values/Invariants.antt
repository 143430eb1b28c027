use Rattle.std.proofs.Common.{◌≡◌, take}
use Rattle.std.specs.List.{list_all}
use Rattle.eqc_blif.specs.Reading.{is_column_value}
use Rattle.eqc_blif.proofs.model.cover.are_column_values.Given as goal

abbrev pub invariant-bytes : goal.invariant-bytes
invariant-bytes l = l.valid ≡ list_all is_column_value (take l.byte-index l.bytes)

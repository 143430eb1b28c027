use Rattle.std.proofs.Common.{◌≡◌, take, map, length}
use Rattle.std.specs.List.{flat_map, range_with_len}
use Rattle.eqc_flat.specs.RowTable.{rows_of}
use Rattle.eqc_flat.proofs.drivers.row_table.RowTable.of.Given as goal

abbrev pub invariant-loop-m : goal.invariant-loop-m
invariant-loop-m l = record {
  firsts : l.firsts.items ≡ map (λ m. length (flat_map rows_of (take m l.library)))
      (range_with_len 0 l.m);
  rows : l.rows.items ≡ flat_map rows_of (take l.m l.library);
}

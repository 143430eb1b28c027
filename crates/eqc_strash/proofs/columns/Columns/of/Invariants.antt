use Rattle.std.proofs.Common.{◌≡◌, map, slice_index, take}
use Rattle.eqc_strash.proofs.columns.Columns.of.Given as goal

abbrev pub invariant-loop-k : goal.invariant-loop-k
invariant-loop-k l = l.classes.items ≡ map (slice_index l.numbers) (take l.k l.signals)

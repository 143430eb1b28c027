use Rattle.std.proofs.Common.{◌≡◌, map}
use Rattle.std.specs.List.{fold, range_with_len}
use Rattle.eqc_netlist.specs.Pieces.{piece}
use Rattle.eqc_netlist.proofs.pieces.write_pieces.Given as goal

abbrev pub invariant-loop-k : goal.invariant-loop-k
invariant-loop-k g l = l.state ≡ fold g.H.Hasher.write l.initial.state
    (map (piece l.bytes) (range_with_len 0 l.k))

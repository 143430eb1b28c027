use Rattle.std.proofs.Common.{◌≡◌, take}
use Rattle.std.specs.List.{fold}
use Rattle.eqc_strash.proofs.rows_key.RowsKeyHash.hash.Given as goal

abbrev pub invariant-loop-k : goal.invariant-loop-k
invariant-loop-k g l = l.state ≡ fold g.H.Hasher.write l.initial.state
    (take l.k l.self-inside.rows.now)

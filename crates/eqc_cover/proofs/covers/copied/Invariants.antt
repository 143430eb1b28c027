use Rattle.std.proofs.Common.{◌≡◌, map, take}
use Rattle.eqc_cover.proofs.covers.copied.Given as goal

abbrev pub invariant-loop-k : goal.invariant-loop-k
invariant-loop-k l = map (λ r. r.items) l.copy.items ≡ take l.k l.rows

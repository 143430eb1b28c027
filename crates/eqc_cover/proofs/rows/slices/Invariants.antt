use Rattle.std.proofs.Common.{map, take}
use Rattle.eqc_cover.specs.Matching.{MatchAlike}
use Rattle.eqc_cover.proofs.rows.slices.Given as goal

-- the slices say what the rows so far say
abbrev pub invariant-loop-k : goal.invariant-loop-k
invariant-loop-k l = MatchAlike l.columns (map (λ r. r.now) l.slices.items) (take l.k l.rows)

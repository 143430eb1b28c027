use Rattle.std.proofs.Common.{◌≡◌, map, take}
use Rattle.eqc_cover.specs.Matching.{MatchAlike}
use Rattle.eqc_cover.proofs.rows.distinct.Given as goal

-- what was kept says what the rows so far say, and is what was seen
abbrev pub invariant-rows : goal.invariant-rows
invariant-rows l = record {
  kept : MatchAlike l.columns (map (λ r. r.now) l.kept.items) (take l.k l.rows);
  seen : l.seen.keys ≡ l.kept.items;
}

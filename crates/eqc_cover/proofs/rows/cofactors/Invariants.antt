use Rattle.std.proofs.Common.{◌≡◌, true, false, map, take}
use Rattle.eqc_cover.specs.Matching.{cofactor, constrains_first}
use Rattle.eqc_cover.proofs.rows.cofactors.Given as goal

-- what was kept of the rows so far, and whether one of them asks for the column
abbrev pub invariant-loop-row : goal.invariant-loop-row
invariant-loop-row l = record {
  when_true : map (λ r. r.now) l.when_true.items
      ≡ cofactor true (map (λ r. r.now) (take l.row-index l.rows));
  when_false : map (λ r. r.now) l.when_false.items
      ≡ cofactor false (map (λ r. r.now) (take l.row-index l.rows));
  differ : l.differ ≡ constrains_first (map (λ r. r.now) (take l.row-index l.rows));
}

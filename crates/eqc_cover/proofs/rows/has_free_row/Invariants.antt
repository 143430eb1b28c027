use Rattle.std.proofs.Common.{◌≡◌, map, drop}
use Rattle.eqc_cover.specs.Matching.{has_free_row}
use Rattle.eqc_cover.proofs.rows.has_free_row.Given as goal

-- the rows that are left decide
abbrev pub invariant-loop-row : goal.invariant-loop-row
invariant-loop-row l = has_free_row (map (λ r. r.now) (drop l.row-index l.rows))
    ≡ has_free_row (map (λ r. r.now) l.rows)

use Rattle.std.proofs.Common.{◌≡◌, drop}
use Rattle.std.specs.List.{list_any}
use Rattle.eqc_cover.specs.Matching.{is_literal}
use Rattle.eqc_cover.proofs.rows.has_literal.Given as goal

-- the places that are left decide
abbrev pub invariant-loop-byte : goal.invariant-loop-byte
invariant-loop-byte l = list_any is_literal (drop l.byte-index l.places)
    ≡ list_any is_literal l.places

use Rattle.std.proofs.Common.{◌≡◌, map, take, ℕ}
use Rattle.smallvec.specs.SmallVec.{SmallVec}
use Rattle.eqc_flat.proofs.flattening.copied.Given as goal

abbrev pub invariant-columns : goal.invariant-columns
invariant-columns l = map (λ (c : SmallVec ℕ). c.items) l.copies.items
    ≡ map (λ (c : SmallVec ℕ). c.items) (take l.places-index l.columns)

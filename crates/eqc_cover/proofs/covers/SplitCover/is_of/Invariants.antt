use Rattle.std.proofs.Common.{◌≡◌, take}
use Rattle.eqc_cover.proofs.covers.SplitCover.is_of.Given as goal

abbrev pub invariant-loop-k : goal.invariant-loop-k
invariant-loop-k l = take l.k l.self.rows ≡ take l.k l.rows

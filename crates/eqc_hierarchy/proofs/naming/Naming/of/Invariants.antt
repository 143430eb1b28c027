use Rattle.std.proofs.Common.{◌≡◌, map, take, ℕ}
use Rattle.smallvec.specs.SmallVec.{SmallVec}
use Rattle.std.specs.List.{flat_map}
use Rattle.eqc_hierarchy.specs.Signals.{names_of}
use Rattle.eqc_hierarchy.specs.Columns.{columns_of}
use Rattle.eqc_hierarchy.proofs.naming.Naming.of.Given as goal

abbrev pub invariant-loop-m : goal.invariant-loop-m
invariant-loop-m l = record {
  sets : l.sets.items ≡ map names_of (take l.m l.library);
  columns : map (λ (c : SmallVec ℕ). c.items) l.columns.items
      ≡ flat_map columns_of (take l.m l.library);
}

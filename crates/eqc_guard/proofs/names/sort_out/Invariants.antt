use Rattle.std.proofs.Common.{◌≡◌, ◌+◌, ◌++◌, drop, length}
use Rattle.eqc_core.specs.Scanning.{kept, ejected}
use Rattle.eqc_guard.proofs.names.sort_out.Given as goal

abbrev pub invariant-loop-x : goal.invariant-loop-x
invariant-loop-x l = record {
  stay : l.stay.items ++ kept l.noted.items (drop l.x-index l.fn.retired.items)
      ≡ kept l.fn.noted.items l.fn.retired.items;
  go : l.go.items ++ ejected l.noted.items (drop l.x-index l.fn.retired.items)
      ≡ ejected l.fn.noted.items l.fn.retired.items;
  lengths : length l.stay.items + length l.go.items ≡ l.x-index;
  all : l.x-items ≡ l.fn.retired.items;
}

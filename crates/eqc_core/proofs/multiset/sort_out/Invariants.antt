use Rattle.std.proofs.Common.{◌≡◌, ◌++◌, drop}
use Rattle.eqc_core.specs.Scanning.{kept, ejected}
use Rattle.eqc_core.proofs.multiset.sort_out.Given as goal

abbrev pub invariant-loop-x : goal.invariant-loop-x
invariant-loop-x l = record {
  stay : l.stay.items ++ kept l.left.items (drop l.x-index l.retired) ≡ kept l.fn.noted l.retired;
  go : l.go.items ++ ejected l.left.items (drop l.x-index l.retired) ≡ ejected l.fn.noted l.retired;
}

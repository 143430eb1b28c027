use Rattle.std.proofs.Common.{◌≡◌, ◌++◌, replicate}
use Rattle.eqc_cover.proofs.least.push_times.Given as goal

abbrev pub invariant-values : goal.invariant-values
invariant-values l = l.values.items ≡ l.fn.values.items ++ replicate l._k l.value

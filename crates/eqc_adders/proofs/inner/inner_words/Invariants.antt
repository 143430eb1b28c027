use Rattle.std.proofs.Common.{◌<◌}
use Rattle.eqc_adders.proofs.inner.inner_words.Given as goal

abbrev pub invariant-bits : goal.invariant-bits
invariant-bits l = l.from < l.to

use Rattle.std.specs.Prelude.{All}
use Rattle.eqc_case.specs.Diagnosed.{IsGroup}
use Rattle.eqc_case.proofs.locating.Differing.groups.Given as goal

abbrev pub invariant-loop-k : goal.invariant-loop-k
invariant-loop-k l = All (IsGroup l.self.compared.pair.now) l.groups.items

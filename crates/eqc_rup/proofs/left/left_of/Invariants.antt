use Rattle.std.proofs.Common.{◌++◌, take}
use Rattle.std.specs.Option.{option_to_list}
use Rattle.eqc_rup.specs.Checking.{Implies}
use Rattle.eqc_rup.proofs.left.left_of.Given as goal

-- of the literals so far, what isn't false is left
abbrev pub invariant-loop-l : goal.invariant-loop-l
invariant-loop-l l = Implies (take l.l-index l.clause) (option_to_list l.left ++ l.falsified)

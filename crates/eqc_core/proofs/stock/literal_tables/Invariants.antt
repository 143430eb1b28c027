use Rattle.std.proofs.Common.{◌≡◌, map}
use Rattle.eqc_core.specs.State.{homes_from}
use Rattle.eqc_core.specs.Machine.{home_of}
use Rattle.eqc_core.proofs.stock.literal_tables.Given as goal

-- as many tables of 16 as there are so far
abbrev pub invariant-loop-s : goal.invariant-loop-s
invariant-loop-s l = map home_of l.homes.items ≡ homes_from 0 l.s l.n

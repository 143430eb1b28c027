use Rattle.std.proofs.Common.{◌≡◌, ◌++◌, map, drop}
use Rattle.eqc_core.specs.Machine.{home_of}
use Rattle.eqc_core.proofs.homes.copy_homes.Given as goal

abbrev pub invariant-loop-home : goal.invariant-loop-home
invariant-loop-home l = map home_of l.copies.items ++ map home_of (drop l.home-index l.homes)
    ≡ map home_of l.homes

use Rattle.std.proofs.Common.{◌≡◌, map}
use mathlib.Core.Option.{some}
use Rattle.eqc_core.specs.State.{homes_from}
use Rattle.eqc_guard.specs.Rule.{homes_of}
use Rattle.eqc_guard.proofs.stock.stripes.Given as goal

abbrev pub invariant-loop-s : goal.invariant-loop-s
invariant-loop-s l = homes_of (map some l.maps.items) ≡ homes_from 0 l.s l.n

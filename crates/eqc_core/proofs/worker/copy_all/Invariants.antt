use Rattle.std.proofs.Common.{◌≡◌, ◌++◌, map, drop}
use Rattle.eqc_core.specs.declared.sizes.Sizes.{Sizes}
use Rattle.eqc_core.specs.Machine.{view_of}
use Rattle.eqc_core.proofs.worker.copy_all.Given as goal

abbrev pub invariant-loop-worker : goal.invariant-loop-worker
invariant-loop-worker l = (z : Sizes) → map (view_of z) l.copies.items
    ++ map (view_of z) (drop l.worker-index l.workers) ≡ map (view_of z) l.workers

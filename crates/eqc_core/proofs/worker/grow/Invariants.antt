use Rattle.std.proofs.Common.{◌≡◌, ◌-◌, map, vec_len}
use Rattle.eqc_core.specs.declared.sizes.Sizes.{Sizes}
use Rattle.eqc_core.specs.View.{grown}
use Rattle.eqc_core.specs.Machine.{view_of}
use Rattle.eqc_core.proofs.worker.grow.Given as goal

abbrev pub invariant-short : goal.invariant-short
invariant-short l = (z : Sizes) → grown (map (view_of z) l.workers.items) l.n
    ≡ grown (map (view_of z) l.initial.workers.items) l.n

abbrev pub decreases-short : goal.decreases-short
decreases-short l = l.n - vec_len l.workers

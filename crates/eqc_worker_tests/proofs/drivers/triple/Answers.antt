use Rattle.std.proofs.Common.{◌≡◌, ℕ, ◌<◌, ◌≤◌, List, ◌++◌, ◌∷◌, [], arith, sym, subst, refl, inl}
use Rattle.std.proofs.Common.{inr}
use Rattle.eqc_core.specs.View.{View}
use Rattle.eqc_core.specs.Words.{times}
use Rattle.eqc_core.specs.Counting.{upped}
use Rattle.eqc_core.proofs.Names.{times-append, times-same}
use Rattle.eqc_guard.specs.Standing.{Standing, Steps}
use Rattle.eqc_cache.proofs.Trading.{below}
use Rattle.eqc_worker_tests.proofs.drivers.triple.Goals as goal

-- what was counted up is held
now_held : (x : ℕ) (old new : Standing) → Steps old (upped old.known.core x) new
    → 0 < times x new.known.core.held
now_held x old new s = subst (λ (v : View). 0 < times x v.held) (sym s.known.core)
    (omega (arith, times-append x old.known.core.held (x ∷ []), times-same x x [] refl))

pub counted-f-requires-clause-there : goal.counted-f-requires-clause-there
counted-f-requires-clause-there g c = below c.args.worker.now c.args.x c.cells-cells.ensures.known
    c.requires.slot c.requires.held

pub counted-g-requires-clause-there : goal.counted-g-requires-clause-there
counted-g-requires-clause-there g c =
    below c.counted-f.new.worker c.args.x c.counted-f.ensures.step.known.known c.requires.slot
    (inr (now_held c.args.x c.args.worker.now c.counted-f.new.worker c.counted-f.ensures.step))

pub counted-g-requires-clause-known : goal.counted-g-requires-clause-known
counted-g-requires-clause-known g c =
    inl (now_held c.args.x c.args.worker.now c.counted-f.new.worker c.counted-f.ensures.step)

pub counted-r-requires-clause-there : goal.counted-r-requires-clause-there
counted-r-requires-clause-there g c =
    below c.counted-g.new.worker c.args.x c.counted-g.ensures.step.known.known c.requires.slot
    (inr (now_held c.args.x c.counted-f.new.worker c.counted-g.new.worker
    c.counted-g.ensures.step))

pub counted-r-requires-clause-known : goal.counted-r-requires-clause-known
counted-r-requires-clause-known g c =
    inl (now_held c.args.x c.counted-f.new.worker c.counted-g.new.worker c.counted-g.ensures.step)

use Rattle.std.proofs.Common.{◌≡◌, ℕ, length, refl, ap, subst, arith, inl}
use Rattle.eqc_core.specs.View.{View}
use Rattle.eqc_guard.specs.Standing.{Standing}
use Rattle.eqc_guard.specs.Copying.{KeepsCells}
use Rattle.eqc_guard.proofs.Copying.{cells_on, count_keeps}
use Rattle.eqc_cache.proofs.Hits.{confirmed_at, there, taken, let_go}
use Rattle.eqc_cache.proofs.finding.take.Goals as goal

pub up-requires-clause-there : goal.up-requires-clause-there
up-requires-clause-there c = there c.args.worker.now c.confirm.new.self c.args.found c.requires.may
    c.requires.slot (c.if-not-confirm.ensures.yes refl)

pub returns-in-Ok-clause-hit : goal.returns-in-Ok-clause-hit
returns-in-Ok-clause-hit c =
    taken c.args.worker.now c.confirm.new.self c.args.found c.requires.may c.requires.slot
    (c.if-not-confirm.ensures.yes refl) c.up.new.self
    c.in-Ok.ensures.step c.release.new.self c.release.ensures.step

pub returns-in-Err-clause-miss : goal.returns-in-Err-clause-miss
returns-in-Err-clause-miss c =
    λ e.
    let_go c.args.worker.now c.confirm.new.self c.args.found c.requires.may c.requires.slot
    (c.if-not-confirm.ensures.yes refl) c.up.new.self
    c.release-in-Err.new.self c.in-Err.ensures.still c.release-in-Err.ensures.step

pub returns-in-Ok-clause-cells : goal.returns-in-Ok-clause-cells
returns-in-Ok-clause-cells c =
    let at = confirmed_at c.args.worker.now c.confirm.new.self c.args.found c.requires.may
    c.requires.slot (c.if-not-confirm.ensures.yes refl) in
    cells_on c.args.worker.now.known c.confirm.new.self.known c.release.new.self.known
    (ap (λ (v : View). v.sizes) at.core) c.if-not-confirm.ensures.cells
    (cells_on c.confirm.new.self.known c.up.new.self.known c.release.new.self.known
    (ap (λ (v : View). v.sizes) c.in-Ok.ensures.step.known.core)
    (count_keeps c.confirm.new.self.known c.up.new.self.known c.args.found c.in-Ok.ensures.copies.0
    _
    (there c.args.worker.now c.confirm.new.self c.args.found c.requires.may c.requires.slot
    (c.if-not-confirm.ensures.yes refl))
    c.in-Ok.ensures.copies.1)
    c.release.ensures.cells)

pub returns-in-Err-clause-cells : goal.returns-in-Err-clause-cells
returns-in-Err-clause-cells c =
    let at = confirmed_at c.args.worker.now c.confirm.new.self c.args.found c.requires.may
    c.requires.slot (c.if-not-confirm.ensures.yes refl) in
    cells_on c.args.worker.now.known c.confirm.new.self.known c.release-in-Err.new.self.known
    (ap (λ (v : View). v.sizes) at.core) c.if-not-confirm.ensures.cells
    (subst (λ (s : Standing). KeepsCells s.known c.release-in-Err.new.self.known)
    c.in-Err.ensures.still c.release-in-Err.ensures.cells)

pub returns-in-Err-clause-alone : goal.returns-in-Err-clause-alone
returns-in-Err-clause-alone c = λ e.
    let at = confirmed_at c.args.worker.now c.confirm.new.self c.args.found c.requires.may
    c.requires.slot (c.if-not-confirm.ensures.yes refl) in
    let held : length c.confirm.new.self.known.core.held
    ≡ length c.args.worker.now.known.core.held = ap {B = ℕ} (λ (v : View). length v.held)
    at.core in
    inl (let full = c.in-Err.ensures.full in omega arith)

use Rattle.std.proofs.Common.{◌≡◌, ◌<◌, ℕ, sym, subst, ap, arith}
use Rattle.eqc_core.specs.View.{phase_at}
use Rattle.eqc_core.specs.Announcing.{MayRecheck, rechecked, announced_cell}
use Rattle.eqc_guard.specs.Telling.{Rechecks}
use Rattle.eqc_guard.specs.Standing.{Standing, Steps}
use Rattle.eqc_core.specs.declared.sizes.Sizes.{Sizes}
use Rattle.eqc_guard.proofs.worker.Worker.look_again.Goals as goal

pub look_again_by-requires-clause-may : goal.look_again_by-requires-clause-may
look_again_by-requires-clause-may c =
    subst (λ (i : ℕ). MayRecheck c.args.self.now.known.core i) c.in-0.is c.requires.may

pub look_again_by-requires-clause-cell : goal.look_again_by-requires-clause-cell
look_again_by-requires-clause-cell c =
    subst (λ (i : ℕ). c.args.cell ≡ announced_cell (phase_at c.args.self.now.known.core i))
    c.in-0.is c.requires.cell

pub returns-in-0-clause-step : goal.returns-in-0-clause-step
returns-in-0-clause-step c =
    subst (λ (i : ℕ). Steps c.args.self.now (rechecked c.args.self.now.known.core i
    c.look_again_by.result) c.look_again_by.new.self) (sym c.in-0.is)
    c.look_again_by.ensures.step

pub returns-in-0-clause-tells : goal.returns-in-0-clause-tells
returns-in-0-clause-tells c =
    subst (λ (i : ℕ). Rechecks c.args.self.now.known i c.look_again_by.result
    c.look_again_by.new.self.known) (sym c.in-0.is) c.look_again_by.ensures.tells

pub look_again_by-requires-in-1-clause-may : goal.look_again_by-requires-in-1-clause-may
look_again_by-requires-in-1-clause-may c =
    subst (λ (i : ℕ). MayRecheck c.args.self.now.known.core i) c.in-1.is c.requires.may

pub look_again_by-requires-in-1-clause-cell : goal.look_again_by-requires-in-1-clause-cell
look_again_by-requires-in-1-clause-cell c =
    subst (λ (i : ℕ). c.args.cell ≡ announced_cell (phase_at c.args.self.now.known.core i))
    c.in-1.is c.requires.cell

pub returns-in-1-clause-step : goal.returns-in-1-clause-step
returns-in-1-clause-step c =
    subst (λ (i : ℕ). Steps c.args.self.now (rechecked c.args.self.now.known.core i
    c.look_again_by-in-1.result) c.look_again_by-in-1.new.self) (sym c.in-1.is)
    c.look_again_by-in-1.ensures.step

pub returns-in-1-clause-tells : goal.returns-in-1-clause-tells
returns-in-1-clause-tells c =
    subst (λ (i : ℕ). Rechecks c.args.self.now.known i c.look_again_by-in-1.result
    c.look_again_by-in-1.new.self.known) (sym c.in-1.is) c.look_again_by-in-1.ensures.tells

pub look_again_by-requires-in-2-clause-may : goal.look_again_by-requires-in-2-clause-may
look_again_by-requires-in-2-clause-may c =
    subst (λ (i : ℕ). MayRecheck c.args.self.now.known.core i) c.in-2.is c.requires.may

pub look_again_by-requires-in-2-clause-cell : goal.look_again_by-requires-in-2-clause-cell
look_again_by-requires-in-2-clause-cell c =
    subst (λ (i : ℕ). c.args.cell ≡ announced_cell (phase_at c.args.self.now.known.core i))
    c.in-2.is c.requires.cell

pub returns-in-2-clause-step : goal.returns-in-2-clause-step
returns-in-2-clause-step c =
    subst (λ (i : ℕ). Steps c.args.self.now (rechecked c.args.self.now.known.core i
    c.look_again_by-in-2.result) c.look_again_by-in-2.new.self) (sym c.in-2.is)
    c.look_again_by-in-2.ensures.step

pub returns-in-2-clause-tells : goal.returns-in-2-clause-tells
returns-in-2-clause-tells c =
    subst (λ (i : ℕ). Rechecks c.args.self.now.known i c.look_again_by-in-2.result
    c.look_again_by-in-2.new.self.known) (sym c.in-2.is) c.look_again_by-in-2.ensures.tells

pub look_again_by-requires-in_default-clause-may : goal.look_again_by-requires-in_default-clause-may
look_again_by-requires-in_default-clause-may c =
    let w = c.self.invariant.worker in
    let mine = subst (λ (s : Standing). c.args.k < s.known.core.sizes.announcements)
    (sym c.self.view_is) c.requires.may.1 in
    let few = w.few_words in
    let same = ap {B = ℕ} (λ (y : Sizes). y.announcements) w.sizes in
    let e : c.args.k ≡ 3 = omega arith in
    subst (λ (i : ℕ). MayRecheck c.args.self.now.known.core i) e c.requires.may

pub look_again_by-requires-in_default-clause-cell :
    goal.look_again_by-requires-in_default-clause-cell
look_again_by-requires-in_default-clause-cell c =
    let w = c.self.invariant.worker in
    let mine = subst (λ (s : Standing). c.args.k < s.known.core.sizes.announcements)
    (sym c.self.view_is) c.requires.may.1 in
    let few = w.few_words in
    let same = ap {B = ℕ} (λ (y : Sizes). y.announcements) w.sizes in
    let e : c.args.k ≡ 3 = omega arith in
    subst (λ (i : ℕ). c.args.cell ≡ announced_cell (phase_at c.args.self.now.known.core i)) e
    c.requires.cell

pub returns-in_default-clause-step : goal.returns-in_default-clause-step
returns-in_default-clause-step c =
    let w = c.self.invariant.worker in
    let mine = subst (λ (s : Standing). c.args.k < s.known.core.sizes.announcements)
    (sym c.self.view_is) c.requires.may.1 in
    let few = w.few_words in
    let same = ap {B = ℕ} (λ (y : Sizes). y.announcements) w.sizes in
    let e : c.args.k ≡ 3 = omega arith in
    subst (λ (i : ℕ). Steps c.args.self.now (rechecked c.args.self.now.known.core i
    c.look_again_by-in_default.result) c.look_again_by-in_default.new.self) (sym e)
    c.look_again_by-in_default.ensures.step

pub returns-in_default-clause-tells : goal.returns-in_default-clause-tells
returns-in_default-clause-tells c =
    let w = c.self.invariant.worker in
    let mine = subst (λ (s : Standing). c.args.k < s.known.core.sizes.announcements)
    (sym c.self.view_is) c.requires.may.1 in
    let few = w.few_words in
    let same = ap {B = ℕ} (λ (y : Sizes). y.announcements) w.sizes in
    let e : c.args.k ≡ 3 = omega arith in
    subst (λ (i : ℕ). Rechecks c.args.self.now.known i c.look_again_by-in_default.result
    c.look_again_by-in_default.new.self.known) (sym e) c.look_again_by-in_default.ensures.tells

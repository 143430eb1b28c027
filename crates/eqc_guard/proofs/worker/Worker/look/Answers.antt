use Rattle.std.proofs.Common.{◌<◌, ℕ, sym, subst, ◌≡◌, ap, arith}
use Rattle.eqc_core.specs.Announcing.{MayLook, looked}
use Rattle.eqc_guard.specs.Standing.{Standing, Steps}
use Rattle.eqc_core.specs.declared.sizes.Sizes.{Sizes}
use Rattle.eqc_guard.proofs.worker.Worker.look.Goals as goal

pub look_by-requires : goal.look_by-requires
look_by-requires c = subst (λ (i : ℕ). MayLook c.args.self.now.known.core i c.args.cell) c.in-0.is
    c.requires

pub returns-in-0-clause-step : goal.returns-in-0-clause-step
returns-in-0-clause-step c =
    subst (λ (i : ℕ). Steps c.args.self.now (looked c.args.self.now.known.core i c.args.cell
    c.look_by.result) c.look_by.new.self) (sym c.in-0.is) c.look_by.ensures.step

pub look_by-requires-in-1 : goal.look_by-requires-in-1
look_by-requires-in-1 c = subst (λ (i : ℕ). MayLook c.args.self.now.known.core i c.args.cell)
    c.in-1.is c.requires

pub returns-in-1-clause-step : goal.returns-in-1-clause-step
returns-in-1-clause-step c =
    subst (λ (i : ℕ). Steps c.args.self.now (looked c.args.self.now.known.core i c.args.cell
    c.look_by-in-1.result) c.look_by-in-1.new.self) (sym c.in-1.is) c.look_by-in-1.ensures.step

pub look_by-requires-in-2 : goal.look_by-requires-in-2
look_by-requires-in-2 c = subst (λ (i : ℕ). MayLook c.args.self.now.known.core i c.args.cell)
    c.in-2.is c.requires

pub returns-in-2-clause-step : goal.returns-in-2-clause-step
returns-in-2-clause-step c =
    subst (λ (i : ℕ). Steps c.args.self.now (looked c.args.self.now.known.core i c.args.cell
    c.look_by-in-2.result) c.look_by-in-2.new.self) (sym c.in-2.is) c.look_by-in-2.ensures.step

-- the last word is left
pub look_by-requires-in_default : goal.look_by-requires-in_default
look_by-requires-in_default c =
    let w = c.self.invariant.worker in
    let mine = subst (λ (s : Standing). c.args.k < s.known.core.sizes.announcements)
    (sym c.self.view_is) c.requires.1 in
    let few = w.few_words in
    let same = ap {B = ℕ} (λ (y : Sizes). y.announcements) w.sizes in
    let e : c.args.k ≡ 3 = omega arith in
    subst (λ (i : ℕ). MayLook c.args.self.now.known.core i c.args.cell) e c.requires

pub returns-in_default-clause-step : goal.returns-in_default-clause-step
returns-in_default-clause-step c =
    let w = c.self.invariant.worker in
    let mine = subst (λ (s : Standing). c.args.k < s.known.core.sizes.announcements)
    (sym c.self.view_is) c.requires.1 in
    let few = w.few_words in
    let same = ap {B = ℕ} (λ (y : Sizes). y.announcements) w.sizes in
    let e : c.args.k ≡ 3 = omega arith in
    subst (λ (i : ℕ). Steps c.args.self.now (looked c.args.self.now.known.core i c.args.cell
    c.look_by-in_default.result) c.look_by-in_default.new.self) (sym e)
    c.look_by-in_default.ensures.step

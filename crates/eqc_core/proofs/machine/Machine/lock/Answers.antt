use Rattle.std.proofs.Common.{◌≡◌, Bool, true, false, set, sym, subst, refl}
use Rattle.eqc_core.specs.declared.event.Step.TheVariants.{Lock}
use Rattle.eqc_core.specs.View.{view_at}
use Rattle.eqc_core.specs.Run.{May, after}
use Rattle.eqc_core.specs.Machine.{state_of}
use Rattle.eqc_core.proofs.Lists.{set_again}
use Rattle.eqc_core.proofs.Stored.{stepped, turn_there}
use Rattle.eqc_core.proofs.machine.Machine.lock.Goals as goal

pub returns-then-not-won : goal.returns-then-not-won
returns-then-not-won c =
    let m = c.args.self.now in
    let s = state_of m in
    let e : c.args.won ≡ false = (let a = c.if-not-won.true in cc) in
    subst (λ (b : Bool). s ≡ after s (record { worker = c.args.id; step = Lock c.args.i b }))
    (sym e)
    (stepped s s.words s.words s.views (set s.views c.args.id (view_at s.views c.args.id)) refl
    (sym (set_again s.views c.args.id (view_at s.views c.args.id) (turn_there m c.args.id
    c.requires.turn))))

pub win_lock-requires-clause-may : goal.win_lock-requires-clause-may
win_lock-requires-clause-may c =
    let s = state_of c.args.self.now in
    let e : c.args.won ≡ true = (let a = c.if-not-won.false in cc) in
    subst (λ (b : Bool). May s (view_at s.views c.args.id) (Lock c.args.i b)) e c.requires.may

pub returns : goal.returns
returns c =
    let s = state_of c.args.self.now in
    let e : c.args.won ≡ true = (let a = c.if-not-won.false in cc) in
    subst (λ (b : Bool). state_of c.win_lock.new.self ≡ after s (record {
      worker = c.args.id;
      step =
          Lock c.args.i b;
    })) (sym e) c.win_lock.ensures

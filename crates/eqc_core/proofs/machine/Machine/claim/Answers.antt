use Rattle.std.proofs.Common.{◌≡◌, Bool, sym, subst}
use Rattle.std.specs.Prelude.{OnOk}
use Rattle.eqc_core.specs.declared.event.Step.TheVariants.{Claim}
use Rattle.eqc_core.specs.View.{view_at}
use Rattle.eqc_core.specs.Run.{May, after}
use Rattle.eqc_core.specs.Machine.{state_of}
use Rattle.eqc_core.proofs.machine.Machine.claim.Goals as goal

pub win_claim-requires-clause-may : goal.win_claim-requires-clause-may
win_claim-requires-clause-may c =
    let s = state_of c.args.self.now in
    subst (λ (b : Bool). May s (view_at s.views c.args.id) (Claim c.args.x b)) c.if-won.true
    c.requires.may

pub returns-then-won : goal.returns-then-won
returns-then-won c =
    let s = state_of c.args.self.now in
    subst (λ (b : Bool). state_of c.win_claim.new.self ≡ after s (record {
      worker = c.args.id;
      step = Claim c.args.x b;
    })) (sym c.if-won.true) c.win_claim.ensures

pub lose_claim-requires-clause-may : goal.lose_claim-requires-clause-may
lose_claim-requires-clause-may c =
    let s = state_of c.args.self.now in
    subst (λ (b : Bool). May s (view_at s.views c.args.id) (Claim c.args.x b)) c.if-won.false
    c.requires.may

pub returns : goal.returns
returns c =
    let s = state_of c.args.self.now in
    subst (λ (b : Bool). OnOk c.lose_claim.result (state_of c.lose_claim.new.self
    ≡ after s (record { worker = c.args.id; step = Claim c.args.x b }))) (sym c.if-won.false)
    c.lose_claim.ensures

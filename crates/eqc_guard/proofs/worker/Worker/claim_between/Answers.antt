use Rattle.std.proofs.Common.{◌<◌, ◌≤◌, IsTrue, true, sym, subst, arith, refl}
use Rattle.eqc_guard.specs.Known.{IsKnown}
use Rattle.eqc_guard.specs.Standing.{Standing}
use Rattle.eqc_guard.specs.Searching.{IsDrafted}
use Rattle.eqc_guard.proofs.Searching.{none_seen, one_seen, one_won, sizes_stay}
use Rattle.eqc_guard.proofs.worker.Worker.claim_between.Goals as goal

pub loop-slot-init : goal.loop-slot-init
loop-slot-init c =
    let known : IsKnown c.args.self.now.known = subst (λ (s : Standing). IsKnown s.known)
    c.self.view_is c.self.invariant.worker.known in
    none_seen c.args.first c.args.self.now known

pub loop-slot-preserved : goal.loop-slot-preserved
loop-slot-preserved c =
    one_seen c.args.first c.loop-slot.slot c.args.self.now c.loop-slot.self c.loop-slot.invariant
    c.claim.new.self
    (let two = c.requires.slot in let from = c.loop-slot.auto.slot in omega arith)
    (c.if-claim.ensures.lost refl)

pub returns-then-claim-clause-won : goal.returns-then-claim-clause-won
returns-then-claim-clause-won c =
    let yes : IsTrue true = refl in
    let same = sizes_stay c.args.first c.loop-slot.slot c.args.self.now c.loop-slot.self
    c.loop-slot.invariant in
    let there : c.loop-slot.slot < c.loop-slot.self.known.core.sizes.names = let t =
    c.requires.there in let lt = c.loop-slot-test.true in omega arith in
    let two : 2 ≤ c.loop-slot.slot = let t = c.requires.slot in let from = c.loop-slot.auto.slot in
    omega arith in
    subst (λ (s : Standing). IsDrafted c.loop-slot.slot c.args.self.now s)
    (sym c.self-in-loop-slot.view_is)
    (one_won c.args.first c.loop-slot.slot c.args.self.now c.loop-slot.self c.loop-slot.invariant
    c.loop-slot.slot c.claim.new.self two there (c.if-claim.ensures.won yes))

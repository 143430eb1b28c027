use Rattle.std.proofs.Common.{◌≡◌, ℕ, ◌≤◌, true, false, refl, sym, subst, ◌∙◌}
use Rattle.eqc_core.specs.declared.phase.Phase.{Phase}
use Rattle.eqc_core.specs.View.{phase_at}
use Rattle.eqc_core.specs.Announcing.{LetsAnnounce, announced, rechecked}
use Rattle.eqc_guard.specs.Known.{IsKnown}
use Rattle.eqc_guard.specs.Standing.{Standing}
use Rattle.eqc_guard.proofs.Acquiring.{word_there, confirmed, withdrawn, seen_as, found_alone}
use Rattle.eqc_guard.proofs.Acquiring.{may_recheck, may_withdraw}
use Rattle.eqc_guard.proofs.Copying.{cells_on, look_on}
use Rattle.eqc_guard.proofs.worker.Worker.confirm.Goals as goal

pub recheck-requires : goal.recheck-requires
recheck-requires c =
    let known : IsKnown c.args.self.now.known = subst (λ (s : Standing). IsKnown s.known)
    c.self.view_is c.self.invariant.worker.known in
    let there = word_there c.args.self.now.known c.args.k known c.requires.may.1 in
    let s = seen_as (phase_at c.args.self.now.known.core c.args.k) c.args.found c.requires.may.2
    c.requires.slot in
    may_recheck c.args.k c.args.self.now c.announce.new.self s.0 s.1 c.args.found there s.2
    c.announce.ensures.step c.requires.may.0 c.requires.may.1

pub announce-requires-2 : goal.announce-requires-2
announce-requires-2 c =
    let known : IsKnown c.args.self.now.known = subst (λ (s : Standing). IsKnown s.known)
    c.self.view_is c.self.invariant.worker.known in
    let there = word_there c.args.self.now.known c.args.k known c.requires.may.1 in
    let s = seen_as (phase_at c.args.self.now.known.core c.args.k) c.args.found c.requires.may.2
    c.requires.slot in
    let r = c.recheck.ensures in
    may_withdraw c.args.k c.args.self.now c.announce.new.self s.0 s.1 c.args.found there s.2
    c.announce.ensures.step c.recheck.new.self r.0 r.1
    c.requires.may.0 c.requires.may.1

pub returns-then-recheck-clause-yes : goal.returns-then-recheck-clause-yes
returns-then-recheck-clause-yes c = λ t d word seen.
    let known : IsKnown c.args.self.now.known = subst (λ (s : Standing). IsKnown s.known)
    c.self.view_is c.self.invariant.worker.known in
    let there = word_there c.args.self.now.known c.args.k known c.requires.may.1 in
    let lets = subst (λ (p : Phase). LetsAnnounce p c.args.found) seen c.requires.may.2 in
    let r = c.recheck.ensures in
    confirmed c.args.k c.args.self.now c.announce.new.self d word c.args.found there seen
    c.announce.ensures.step c.recheck.new.self r.0 r.1
    (subst (λ (x : ℕ). 2 ≤ x) lets.1 lets.0) r.2 (r.3.0 c.if-recheck.true)

pub returns-clause-no : goal.returns-clause-no
returns-clause-no c = λ t.
    let known : IsKnown c.args.self.now.known = subst (λ (s : Standing). IsKnown s.known)
    c.self.view_is c.self.invariant.worker.known in
    let there = word_there c.args.self.now.known c.args.k known c.requires.may.1 in
    let s = seen_as (phase_at c.args.self.now.known.core c.args.k) c.args.found c.requires.may.2
    c.requires.slot in
    let r = c.recheck.ensures in
    withdrawn c.args.k c.args.self.now c.announce.new.self s.0 s.1 c.args.found there s.2
    c.announce.ensures.step c.recheck.new.self r.0 r.1
    c.announce-2.new.self (λ h. absurd (let q : false ≡ true = sym c.if-recheck.false ∙ r.3.1 h in
    cc)) c.announce-2.ensures.step

-- no step changes the cells
pub returns-then-recheck-clause-cells : goal.returns-then-recheck-clause-cells
returns-then-recheck-clause-cells c =
    let r = c.recheck.ensures in
    (look_on c.args.self.now c.announce.new.self c.recheck.new.self _ r.0
    (announced c.args.self.now.known.core c.args.k)
    (rechecked c.announce.new.self.known.core c.args.k r.0) c.announce.ensures.step refl r.1 refl
    c.announce.ensures.cells r.4).0

pub returns-clause-cells : goal.returns-clause-cells
returns-clause-cells c =
    let r = c.recheck.ensures in
    let looked = look_on c.args.self.now c.announce.new.self c.recheck.new.self _ r.0
    (announced c.args.self.now.known.core c.args.k)
    (rechecked c.announce.new.self.known.core c.args.k r.0) c.announce.ensures.step refl r.1 refl
    c.announce.ensures.cells r.4 in
    cells_on c.args.self.now.known c.recheck.new.self.known c.announce-2.new.self.known looked.1
    looked.0 c.announce-2.ensures.cells

-- where the copy has the word, the second look finds it
pub returns-clause-alone : goal.returns-clause-alone
returns-clause-alone c = λ ws has d word seen is.
    let known : IsKnown c.args.self.now.known = subst (λ (s : Standing). IsKnown s.known)
    c.self.view_is c.self.invariant.worker.known in
    let there = word_there c.args.self.now.known c.args.k known c.requires.may.1 in
    let r = c.recheck.ensures in
    let found = found_alone c.args.k c.args.self.now c.announce.new.self d word c.args.found there
    seen c.announce.ensures.step c.recheck.new.self r.0 r.1
    c.announce.ensures.cells r.4 ws has is in
    absurd (let q : false ≡ true = sym c.if-recheck.false ∙ r.3.1 found in cc)

use Rattle.std.proofs.Common.{subst, arith}
use Rattle.std.proofs.lemmas.Result.{IfOk-weaker}
use Rattle.eqc_xag.specs.Graph.{Extends}
use Rattle.eqc_sums.specs.Adding.{AreEqualWords}
use Rattle.eqc_sums.proofs.GateLemmas.{extends_both}
use Rattle.eqc_numbers.proofs.ShownLaws.{words_back}
use Rattle.eqc_numbers.proofs.shown.show_copies.Goals as goal

pub returns : goal.returns
returns c = λ old are.
    let now = c.args.sums.now.reduction.sweep in
    let found = c.find_adders.new.self.reduction.sweep in
    let carried = c.find_carries.new.self.reduction.sweep in
    let new = c.show.new.self.reduction.sweep in
    let ps = c.in_ok-ps.ps.items in
    let qs = c.in_ok-qs.qs.items in
    let grown : Extends now new = extends_both now found new c.find_adders.ensures
    (extends_both found carried new c.find_carries.ensures c.show.ensures.extends) in
    IfOk-weaker c.show.result _ _ (λ is shown yes.
    words_back old now new c.args.words.now.firsts.now c.args.words.now.seconds.now ps qs grown (c.in_ok-ps.ensures old
    now are) (c.in_ok-qs.ensures old now are) (omega arith) (omega arith)
    (subst (λ ls. AreEqualWords new ls qs) c.deref.ensures.value
    (subst (λ ls. AreEqualWords new c.deref.result.now ls) c.deref-2.ensures.value
    (shown yes))))
    c.show.ensures.equal

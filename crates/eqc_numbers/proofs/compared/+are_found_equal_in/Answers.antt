use Rattle.std.proofs.Common.{sym, subst, arith}
use Rattle.std.proofs.lemmas.Result.{IfOk-weaker}
use Rattle.eqc_xag.proofs.GraphLemmas.{extends_itself}
use Rattle.eqc_sweep.specs.Copying.{AreCopies}
use Rattle.eqc_sums.specs.Adding.{AreEqualWords}
use Rattle.eqc_numbers.proofs.ShownLaws.{words_back}
use Rattle.eqc_numbers.proofs.compared.+are_found_equal_in.Goals as goal

pub returns : goal.returns
returns t c =
    let old = c.args.graph.now in
    let now = c.copy_both.new.sweep in
    let ps = c.in_ok-ps.ps.items in
    let qs = c.in_ok-qs.qs.items in
    let are = c.in_ok-table.ensures in
    let first = c.in_ok-ps.ensures old now (subst (λ t. AreCopies old now t)
    (sym c.deref-2.ensures.value) are) in
    let second = c.in_ok-qs.ensures old now (subst (λ t. AreCopies old now t)
    (sym c.deref-3.ensures.value) are) in
    IfOk-weaker c.are_found_equal_in.result _ _ (λ is shown yes.
    words_back old now now c.args.words.now.firsts.now c.args.words.now.seconds.now ps qs
    (extends_itself now) first second (omega arith) (omega arith)
    (subst (λ ls. AreEqualWords now ls qs) c.deref-4.ensures.value
    (subst (λ ls. AreEqualWords now c.deref-4.result.now ls) c.deref-5.ensures.value
    (subst (λ g. AreEqualWords g c.deref-4.result.now c.deref-5.result.now) c.graph-2.ensures
    (shown yes)))))
    c.are_found_equal_in.ensures

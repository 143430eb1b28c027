use Rattle.std.proofs.Common.{sym, subst, arith}
use Rattle.std.proofs.lemmas.Result.{IfOk-weaker}
use Rattle.eqc_xag.specs.Graph.{Extends}
use Rattle.eqc_sweep.specs.Copying.{AreCopies}
use Rattle.eqc_sums.specs.Adding.{AreEqualWords}
use Rattle.eqc_numbers.proofs.ShownLaws.{words_back}
use Rattle.eqc_numbers.proofs.anew.are_equal_by_an_array.Goals as goal

pub returns : goal.returns
returns c =
    let old = c.args.graph.now in
    let now = c.copy_both.new.sweep in
    let new = c.enter.new.sweep in
    let ps = c.in_ok-ps.ps.items in
    let qs = c.in_ok-qs.qs.items in
    let are = c.in_ok-table.ensures in
    let grown : Extends now new = c.enter.ensures in
    let first = c.in_ok-ps.ensures old now (subst (λ t. AreCopies old now t)
    (sym c.deref.ensures.value) are) in
    let second = c.in_ok-qs.ensures old now (subst (λ t. AreCopies old now t)
    (sym c.deref-2.ensures.value) are) in
    IfOk-weaker c.are_added_up_by.result _ _ (λ is shown yes.
    words_back old now new c.args.words.now.firsts.now c.args.words.now.seconds.now ps qs grown
    first second (omega arith) (omega arith)
    (subst (λ ls. AreEqualWords new ls qs) c.deref-3.ensures.value
    (subst (λ ls. AreEqualWords new c.deref-3.result.now ls) c.deref-4.ensures.value
    (subst (λ g. AreEqualWords g c.deref-3.result.now c.deref-4.result.now) c.graph.ensures
    (shown yes)))))
    c.are_added_up_by.ensures

use Rattle.std.proofs.Common.{subst, arith}
use Rattle.std.proofs.lemmas.Result.{IfOk-weaker}
use Rattle.eqc_xag.proofs.GraphLemmas.{extends_itself}
use Rattle.eqc_sums.specs.Adding.{AreEqualWords}
use Rattle.eqc_numbers.proofs.ShownLaws.{words_back}
use Rattle.eqc_numbers.proofs.CutLaws.{words_uncut}
use Rattle.eqc_numbers.proofs.cuts.are_equal_in_copy.Goals as goal

pub returns : goal.returns
returns c = λ old are.
    let now = c.args.graph.now in
    let ps = c.in_ok-ps.ps.items in
    let qs = c.in_ok-qs.qs.items in
    IfOk-weaker c.are_equal_by_way_of_references.result _ _ (λ is shown yes.
    words_back old now now c.args.words.now.firsts.now c.args.words.now.seconds.now ps qs
    (extends_itself now) (c.in_ok-ps.ensures old now are) (c.in_ok-qs.ensures old now are)
    (omega arith) (omega arith)
    (words_uncut now c.in_ok-cut.cut ps qs c.in_ok-cut.ensures
    (subst (λ ls. AreEqualWords c.in_ok-cut.cut ls qs) c.deref-4.ensures.value
    (subst (λ ls. AreEqualWords c.in_ok-cut.cut c.deref-4.result.now ls) c.deref-5.ensures.value
    (shown yes)))))
    c.are_equal_by_way_of_references.ensures

use Rattle.std.proofs.Common.{List, ℕ, [], subst, OnOk, OnErr}
use Rattle.std.specs.Io.KnownBytes.{Appends}
use Rattle.eqc_report.specs.Ends.{AppendsPrefix}
use Rattle.eqc_report.specs.Report.{block}
use Rattle.eqc_report.specs.ReportView.{difference_of}
use Rattle.eqc_report.proofs.SpoolLemmas.{put_none, lines_mapped}
use Rattle.eqc_report.proofs.report.text.put_differences.Goals as goal

pub returns-clause-whole : goal.returns-clause-whole
returns-clause-whole g c =
    let start = g.W.Write.contents c.args.out.now in
    let put = (rw (c.deref.ensures.value, c.deref-2.ensures.value) at c.put_each.ensures.each) start
    [] (rw c.new-spool.ensures (put_none start)) in
    subst (λ (t : List ℕ). OnOk c.close.result (Appends start (g.W.Write.contents c.close.new.out)
    t))
    (lines_mapped block (difference_of c.args.differences.now.inputs.items)
    c.args.differences.now.each.items) (c.close.ensures.whole start _ put)

pub returns-clause-part : goal.returns-clause-part
returns-clause-part g c =
    let start = g.W.Write.contents c.args.out.now in
    let put = (rw (c.deref.ensures.value, c.deref-2.ensures.value) at c.put_each.ensures.each) start
    [] (rw c.new-spool.ensures (put_none start)) in
    subst (λ (t : List ℕ). OnErr c.close.result
    (AppendsPrefix start (g.W.Write.contents c.close.new.out) t))
    (lines_mapped block (difference_of c.args.differences.now.inputs.items)
    c.args.differences.now.each.items) (c.close.ensures.part start _ put)

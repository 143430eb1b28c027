use Rattle.std.proofs.Common.{◌≡◌, ◌∙◌, ℕ, List, sym, ap, subst, is_some, false, OnErr}
use Rattle.eqc_report.specs.Ends.{AppendsPrefix}
use Rattle.eqc_report.specs.Spooling.{SpoolOf}
use Rattle.eqc_report.proofs.SpoolLemmas.{closed_part}
use Rattle.eqc_report.proofs.io.spool.Spool.close.Goals as goal

pub returns-in-None-clause-part : goal.returns-in-None-clause-part
returns-in-None-clause-part g c = λ start text is.
    let old = g.W.Write.contents c.args.out.now in
    let new = g.W.Write.contents c.write_whole.new.out in
    let open_still : c.args.self.failed ≡ false =
    ap (λ (s : SpoolOf). s.failed) (sym c.self.view_is) ∙ ap is_some c.in-None.is in
    let waits = ap (λ (s : SpoolOf). s.waits) c.self.view_is in
    closed_part c.write_whole.result old new c.args.self start text open_still
    (subst (λ (w : List ℕ). OnErr c.write_whole.result (AppendsPrefix old new w)) waits
    c.write_whole.ensures.part) is

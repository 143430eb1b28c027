use Rattle.std.proofs.Common.{rules, ◌≡◌, ◌≤◌, ◌∙◌, sym, ap, refl, subst, false, [], ◌∷◌, length}
use Rattle.std.proofs.lemmas.List.{take_all}
use Rattle.eqc_report.specs.Ends.{AppendsPrefix}
use Rattle.eqc_report.specs.Spooling.{SpoolOf}
use Rattle.eqc_report.proofs.SpoolLemmas.{cut_puts}
use Rattle.eqc_report.proofs.io.spool.Spool.put_byte.Goals as goal

pub returns-in-Err : goal.returns-in-Err
returns-in-Err g c =
    let block = c.self.inside.block in
    let full : length block ≤ c.self.inside.len = search rules in
    let open_still : c.args.self.now.failed ≡ false =
    ap (λ (s : SpoolOf). s.failed) (sym c.self.view_is) ∙ (sym c.is_some.ensures
    ∙ c.if-is_some.false) in
    let waits : block ≡ c.args.self.now.waits = sym (take_all c.self.inside.len block full)
    ∙ ap (λ (s : SpoolOf). s.waits) c.self.view_is in
    cut_puts (g.W.Write.contents c.args.out.now) (g.W.Write.contents c.write_all.new.out)
    c.args.self.now _ (c.args.byte ∷ []) open_still refl
    (subst (AppendsPrefix (g.W.Write.contents c.args.out.now)
    (g.W.Write.contents c.write_all.new.out)) waits c.in-Err.ensures.part)

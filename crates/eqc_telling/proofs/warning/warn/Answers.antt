use Rattle.std.proofs.Common.{◌≡◌, ◌∙◌, ap, sym, length}
use Rattle.std.proofs.lemmas.Bool.{eqb-false}
use Rattle.eqc_telling.specs.Warnings.{warnings_text}
use Rattle.eqc_telling.proofs.WarningLemmas.{told_of}
use Rattle.eqc_telling.proofs.warning.warn.Goals as goal

pub returns-then-not-is_empty : goal.returns-then-not-is_empty
returns-then-not-is_empty g c =
    let same : c.as_slice-bytes.result.now ≡ warnings_text c.args.request.now c.args.warnings.now =
    c.as_slice-bytes.ensures.value ∙ c.in-Ok.ensures in
    told_of c.write_text.result (g.E.Write.contents c.args.err.now)
    (g.E.Write.contents c.write_text.new.out) (warnings_text c.args.request.now
    c.args.warnings.now)
    (λ none. eqb-false (length c.as_slice-bytes.result.now) 0 (sym c.is_empty.ensures
    ∙ c.if-not-is_empty.true) (ap length (same ∙ none)))
    (rw same at c.write_text.ensures.whole) (rw same at c.write_text.ensures.part)

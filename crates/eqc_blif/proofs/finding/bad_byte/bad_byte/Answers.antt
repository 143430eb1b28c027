use Rattle.std.proofs.Common.{◌∙◌, refl, sym}
use Rattle.eqc_blif.proofs.BadByteLemmas.{found_bad, passed_over}
use Rattle.eqc_blif.proofs.finding.bad_byte.bad_byte.Goals as goal

pub returns-in-Some : goal.returns-in-Some
returns-in-Some c =
    let taken = rw c.unwrap-number.ensures at c.next_physical.ensures in
    found_bad c.args.text.now c.unwrap-number.result.1.now c.lines.lines c.next_physical.new.self
    c.unwrap-number.result.0
    c.in-Some.position _ c.lines.invariant.same taken (sym c.first_bad_byte.ensures
    ∙ c.in-Some.is) refl

pub lines-preserved : goal.lines-preserved
lines-preserved c =
    let taken = rw c.unwrap-number.ensures at c.next_physical.ensures in
    let passed =
    passed_over c.unwrap-number.result.0 c.unwrap-number.result.1.now c.lines.lines
    c.next_physical.new.self _ taken
    (λ k is. c.in_default.not-Some k (c.first_bad_byte.ensures ∙ is)) c.lines.invariant.some
    c.lines.invariant.same in
    record { some = passed.0; same = passed.1 }

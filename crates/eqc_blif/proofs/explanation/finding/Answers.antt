use Rattle.std.proofs.Common.{ℕ, ◌∙◌, Some, ap, sym, refl, arith}
use Rattle.std.proofs.lemmas.Bool.{ltb-false}
use Rattle.std.specs.Prelude.{length}
use Rattle.eqc_blif.proofs.BadByteLemmas.{bad_in_text}
use Rattle.eqc_blif.proofs.FindingLemmas.{told_long, told_empty, told_line}
use Rattle.eqc_blif.proofs.explanation.finding.Goals as goal

pub returns-then-code : goal.returns-then-code
returns-then-code c =
    let told = told_long c.args.limit c.args.text.now c.args.refusal.line c.args.refusal.code
    c.requires.refused (c.if-code.true ∙ c.code.ensures) in
    (told.0, refl, refl, told.1)

pub returns-then-code-2 : goal.returns-then-code-2
returns-then-code-2 c = told_empty c.args.limit c.args.text.now c.args.refusal.line
    c.args.refusal.code c.requires.refused (c.if-code-2.true ∙ c.code-2.ensures)

pub bad_byte-byte-requires-clause-short : goal.bad_byte-byte-requires-clause-short
bad_byte-byte-requires-clause-short c =
    let told = told_line c.args.limit c.args.text.now c.args.refusal.line c.args.refusal.code
    c.requires.refused (λ is. c.if-code.false (is ∙ sym c.code.ensures))
    (λ is. c.if-code-2.false (is ∙ sym c.code-2.ensures)) in
    omega (arith, c.requires.limit, ltb-false c.args.limit (length c.args.text.now) told.short)

pub bad_byte-byte-requires-clause-some : goal.bad_byte-byte-requires-clause-some
bad_byte-byte-requires-clause-some c =
    let told = told_line c.args.limit c.args.text.now c.args.refusal.line c.args.refusal.code
    c.requires.refused (λ is. c.if-code.false (is ∙ sym c.code.ensures))
    (λ is. c.if-code-2.false (is ∙ sym c.code-2.ensures)) in
    bad_in_text c.args.refusal.line c.args.text.now (told.fault
    ∙ ap (λ (k : ℕ). Some (c.args.refusal.line, k)) (c.if-code-3.true ∙ c.code-3.ensures))

pub finding_in_line-requires-clause-short : goal.finding_in_line-requires-clause-short
finding_in_line-requires-clause-short c =
    let told = told_line c.args.limit c.args.text.now c.args.refusal.line c.args.refusal.code
    c.requires.refused (λ is. c.if-code.false (is ∙ sym c.code.ensures))
    (λ is. c.if-code-2.false (is ∙ sym c.code-2.ensures)) in
    omega (arith, c.requires.limit, ltb-false c.args.limit (length c.args.text.now) told.short)

pub finding_in_line-requires-clause-fault : goal.finding_in_line-requires-clause-fault
finding_in_line-requires-clause-fault c =
    (told_line c.args.limit c.args.text.now c.args.refusal.line c.args.refusal.code
    c.requires.refused (λ is. c.if-code.false (is ∙ sym c.code.ensures))
    (λ is. c.if-code-2.false (is ∙ sym c.code-2.ensures))).fault

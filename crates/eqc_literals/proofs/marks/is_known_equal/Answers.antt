use Rattle.std.proofs.Common.{◌∙◌, sym}
use Rattle.std.proofs.lemmas.Bool.{true≢false}
use Rattle.eqc_literals.proofs.LiteralLaws.{one_literal}
use Rattle.eqc_literals.proofs.marks.is_known_equal.Goals as goal

pub returns-clause-equal : goal.returns-clause-equal
returns-clause-equal c found = one_literal c.args.steps.now c.args.output c.roots.result
    c.args.literals.now c.requires.lawful c.requires.tell c.requires.output c.roots.ensures
    (c.have_one_literal.ensures found)

pub returns-clause-kept : goal.returns-clause-kept
returns-clause-kept c marked =
    absurd (true≢false (sym marked ∙ (sym c.is_marked.ensures ∙ c.if-is_marked.false)))

use Rattle.std.proofs.Common.{sym, ◌∙◌, length}
use Rattle.std.proofs.lemmas.Bool.{eqb-false}
use Rattle.eqc_blif.proofs.WordLemmas.{first_word, only_word, first_blanks, only_blanks}
use Rattle.eqc_blif.proofs.text.words.split_word.Goals as goal

pub returns-then-end-gt0-clause-words : goal.returns-then-end-gt0-clause-words
returns-then-end-gt0-clause-words c = sym c.blanks.invariant.words
    ∙ first_word c.blanks.rest.now c.find_either-end.result c.find_either-end.ensures.first
    c.if-end-rest.false c.if-end-gt0.true

pub returns-clause-words : goal.returns-clause-words
returns-clause-words c =
    sym c.blanks.invariant.words
    ∙ only_word c.blanks.rest.now c.find_either-end.result c.find_either-end.ensures.first
    c.if-end-rest.true
    (eqb-false (length c.blanks.rest.now) 0 (sym c.is_empty.ensures ∙ c.if-is_empty.false))

pub returns-then-end-gt0-clause-blanks : goal.returns-then-end-gt0-clause-blanks
returns-then-end-gt0-clause-blanks c = sym c.blanks.invariant.blanks
    ∙ first_blanks c.blanks.rest.now c.find_either-end.result c.find_either-end.ensures.first

pub returns-clause-blanks : goal.returns-clause-blanks
returns-clause-blanks c = sym c.blanks.invariant.blanks
    ∙ only_blanks c.blanks.rest.now c.find_either-end.result c.find_either-end.ensures.first
    c.if-end-rest.true

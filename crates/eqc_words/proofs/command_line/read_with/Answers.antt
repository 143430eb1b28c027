use Rattle.std.proofs.lemmas.Result.{err_from_is_err_and}
use Rattle.clap.specs.Simple.{app_of}
use Rattle.eqc_words.proofs.WordLemmas.{words_ask, words_taken, words_refused}
use Rattle.eqc_words.proofs.command_line.read_with.Goals as goal

pub returns-in-Some-clause-taken : goal.returns-in-Some-clause-taken
returns-in-Some-clause-taken c = words_taken (app_of c.in_ok-command.field-0) _
    c.in_ok-command.ensures c.in_ok-matches.ensures.kinds

pub returns-in-Some-clause-asked : goal.returns-in-Some-clause-asked
returns-in-Some-clause-asked c = words_ask (app_of c.in_ok-command.field-0) _
    c.in_ok-matches.matches c.in-Some.request c.in_ok-command.ensures
    c.in_ok-matches.ensures.matches c.in-Some.ensures

pub returns-in_err-matches-clause-refused : goal.returns-in_err-matches-clause-refused
returns-in_err-matches-clause-refused c =
    let back = err_from_is_err_and c.from_residual-in_err-matches.result
    c.from_residual-in_err-matches.ensures.1 in
    rw (back.1, back.2) (words_refused (app_of c.in_ok-command.field-0) _ c.in_err-matches.field-0.0
    c.in_ok-command.ensures c.in_err-matches.ensures.kinds)

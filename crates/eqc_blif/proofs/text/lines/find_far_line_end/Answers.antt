use Rattle.std.proofs.Common.{sym, eqb}
use Rattle.eqc_blif.proofs.SearchLemmas.{not_found, found_first}
use Rattle.eqc_blif.proofs.text.lines.find_far_line_end.Goals as goal

pub returns-in-Some-clause-first : goal.returns-in-Some-clause-first
returns-in-Some-clause-first c = sym (found_first (λ byte. eqb byte 10) c.args.bytes.now c.in-Some.i
    c.in-Some.ensures)

pub returns-in-None-clause-first : goal.returns-in-None-clause-first
returns-in-None-clause-first c =
    sym (not_found (λ byte. eqb byte 10) c.args.bytes.now c.in-None.ensures)

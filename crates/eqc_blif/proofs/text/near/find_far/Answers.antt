use Rattle.std.proofs.Common.{sym}
use Rattle.eqc_blif.specs.Steps.{is_either}
use Rattle.eqc_blif.proofs.SearchLemmas.{not_found, found_first}
use Rattle.eqc_blif.proofs.text.near.find_far.Goals as goal

pub returns-in-Some-clause-first : goal.returns-in-Some-clause-first
returns-in-Some-clause-first g c = sym (found_first (is_either g.row.A g.row.B) c.args.bytes.now
    c.in-Some.i c.in-Some.ensures)

pub returns-in-None-clause-first : goal.returns-in-None-clause-first
returns-in-None-clause-first g c = sym (not_found (is_either g.row.A g.row.B) c.args.bytes.now
    c.in-None.ensures)

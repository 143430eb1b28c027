use Rattle.eqc_blif.proofs.FollowLaws.{lines_make_the_text, lines_are_cut_again}
use Rattle.eqc_blif.proofs.laws.lines_are_cut_again.Goals as goal

pub returns-clause-text : goal.returns-clause-text
returns-clause-text c = lines_make_the_text

pub returns-clause-lines : goal.returns-clause-lines
returns-clause-lines c = lines_are_cut_again

use Rattle.eqc_blif.proofs.CleanLaws.{comments_change_nothing, trailing_blanks_change_nothing}
use Rattle.eqc_blif.proofs.FaultLaws.{skipped_lines_change_nothing}
use Rattle.eqc_blif.proofs.laws.what_changes_nothing.Goals as goal

pub returns-clause-comments : goal.returns-clause-comments
returns-clause-comments c = comments_change_nothing

pub returns-clause-blanks : goal.returns-clause-blanks
returns-clause-blanks c = trailing_blanks_change_nothing

pub returns-clause-skipped : goal.returns-clause-skipped
returns-clause-skipped c = skipped_lines_change_nothing

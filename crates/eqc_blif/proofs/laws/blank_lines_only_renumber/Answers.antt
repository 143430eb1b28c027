use Rattle.eqc_blif.proofs.FollowLaws.{blank_lines_only_renumber}
use Rattle.eqc_blif.proofs.FaultLaws.{numbers_play_no_part}
use Rattle.eqc_blif.proofs.laws.blank_lines_only_renumber.Goals as goal

pub returns-clause-renumbered : goal.returns-clause-renumbered
returns-clause-renumbered c = blank_lines_only_renumber

pub returns-clause-same : goal.returns-clause-same
returns-clause-same c = numbers_play_no_part

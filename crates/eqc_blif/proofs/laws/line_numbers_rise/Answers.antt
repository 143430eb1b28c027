use Rattle.eqc_blif.proofs.FollowLaws.{line_numbers_rise}
use Rattle.eqc_blif.proofs.laws.line_numbers_rise.Goals as goal

pub returns : goal.returns
returns c = line_numbers_rise

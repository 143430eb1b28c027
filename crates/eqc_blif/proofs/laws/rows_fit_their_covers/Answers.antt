use Rattle.eqc_blif.proofs.FitLaws.{rows_fit_their_covers}
use Rattle.eqc_blif.proofs.laws.rows_fit_their_covers.Goals as goal

pub returns : goal.returns
returns c = rows_fit_their_covers

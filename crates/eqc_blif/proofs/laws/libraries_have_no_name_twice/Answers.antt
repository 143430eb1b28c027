use Rattle.eqc_blif.proofs.TwiceLaws.{libraries_have_no_name_twice}
use Rattle.eqc_blif.proofs.laws.libraries_have_no_name_twice.Goals as goal

pub returns : goal.returns
returns c = libraries_have_no_name_twice

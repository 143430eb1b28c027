use Rattle.eqc_blif.proofs.PlainLaws.{words_are_read_back}
use Rattle.eqc_blif.proofs.ReadBackLaws.{libraries_are_read_back}
use Rattle.eqc_blif.proofs.laws.plain_texts_are_read_back.Goals as goal

pub returns : goal.returns
returns c = record { words = words_are_read_back; libraries = libraries_are_read_back }

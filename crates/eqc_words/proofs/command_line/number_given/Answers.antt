use Rattle.std.proofs.Common.{ℕ, List}
use Rattle.std.specs.Str.Parse.{ParsesUnsigned, ExplainsUnsignedError, HasUnsignedDigitsIfOk}
use Rattle.clap.specs.Matches.{found_of}
use Rattle.eqc_words.proofs.WordLemmas.{number_read}
use Rattle.eqc_words.proofs.command_line.number_given.Goals as goal

pub returns : goal.returns
returns c =
    number_read (λ (u : List ℕ) x. ParsesUnsigned 32 10 u x × ExplainsUnsignedError 10 u x
    × HasUnsignedDigitsIfOk u x)
    (found_of c.args.matches.now) c.args.name.now c.get_one.result c.get_one.ensures.none
    c.get_one.ensures.value (λ u x h. h.0)

use Rattle.std.proofs.Common.{refl, subst, sym}
use Rattle.eqc_command.specs.Ends.{IsTold}
use Rattle.eqc_command.proofs.EndLemmas.{same_grows}
use Rattle.eqc_command.proofs.ending.tell.Goals as goal

pub returns-in_default : goal.returns-in_default
returns-in_default g c =
    subst (λ end. IsTold end (g.E.Write.contents c.args.err.now)
    (g.E.Write.contents c.args.err.now)) (sym c.in-BadWords.is)
    (same_grows (g.E.Write.contents c.args.err.now) _ refl)

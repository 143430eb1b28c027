use Rattle.std.proofs.Common.{ℕ, subst, IfOk}
use Rattle.eqc_case.specs.Sources.{AreRead}
use Rattle.eqc_case.proofs.given.read_given.Goals as goal

pub returns-clause-read : goal.returns-clause-read
returns-clause-read g c fits =
    subst (λ (n : ℕ). IfOk c.read_within.result (AreRead n g.R.Read.remaining c.args.given))
    (c.byte_limit-limit.ensures.given fits) c.read_within.ensures.read

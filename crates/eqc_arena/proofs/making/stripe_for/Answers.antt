use Rattle.eqc_arena.proofs.Asking.{stripe_is}
use Rattle.eqc_arena.proofs.making.stripe_for.Goals as goal

pub returns-clause-stripe : goal.returns-clause-stripe
returns-clause-stripe c = stripe_is c.from.result c.args.var c.args.low c.args.high c.from.ensures
    c.requires.low c.requires.high

use Rattle.std.proofs.Common.{arith}
use Rattle.eqc_cover.proofs.SplitsLaws.{owned_at}
use Rattle.eqc_cover.proofs.splitting.by_choice.Goals as goal

pub ite-requires-clause-g : goal.ite-requires-clause-g
ite-requires-clause-g g c = owned_at g.D.References.entry _ c.args.made.now c.args.choice.high
    c.index-made-choice.result (omega arith) c.index-made-choice.is c.requires.owned

pub ite-requires-clause-h : goal.ite-requires-clause-h
ite-requires-clause-h g c = owned_at g.D.References.entry _ c.args.made.now c.args.choice.low
    c.index-made-choice-2.result (omega arith) c.index-made-choice-2.is c.requires.owned
